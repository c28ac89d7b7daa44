use Rattle.tx_html.proofs.Showing.{sets_then}
use Rattle.tx_html.proofs.path.set_segments.Goals as goal

pub loop-index-preserved : goal.loop-index-preserved
loop-index-preserved g c = sets_then c.loop-index.invariant c.set_segment.ensures
