use Rattle.tx_script.proofs.EventLines.{events_back}
use Rattle.tx_script.proofs.event_line.event_lines_read_back.Goals as goal

pub returns : goal.returns
returns c = events_back
