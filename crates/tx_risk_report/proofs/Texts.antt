-- What puts texts one after another.
use Rattle.tx_text.proofs.Putting.{puts_none, puts_then, puts_more, puts_all}
use Rattle.tx_text.proofs.Ranges.{index_more, indexes_done}

pub ruleset putting = (puts_none, puts_then, puts_more, puts_all, index_more, indexes_done)
