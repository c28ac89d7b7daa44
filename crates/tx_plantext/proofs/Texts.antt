-- What puts texts and lines one after another.
use Rattle.tx_text.proofs.Putting.{puts_none, puts_then, puts_more, puts_all}
use Rattle.tx_text.proofs.Ranges.{index_more, indexes_done}
use Rattle.tx_plantext.proofs.PlanWriting.{list_more, list_done, line_past, none_at}

pub ruleset putting = (puts_none, puts_then, puts_more, puts_all, index_more, indexes_done, list_more, list_done, line_past, none_at)
