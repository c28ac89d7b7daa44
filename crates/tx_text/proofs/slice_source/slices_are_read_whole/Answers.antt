use Rattle.tx_text.proofs.CallCounts.{slices_whole}
use Rattle.tx_text.proofs.slice_source.slices_are_read_whole.Goals as goal

pub returns : goal.returns
returns c = slices_whole
