use Rattle.tx_rank.proofs.Common.{◌-◌, ◌*◌, unwrap_or, rank_in}
use Rattle.tx_rank.proofs.Tracing.{IsBack}
use Rattle.tx_rank.proofs.short_walks.walk_to.Given as goal

abbrev pub invariant-loop-link : goal.invariant-loop-link
invariant-loop-link g l = IsBack (g.N.CodeNet.net l.net) (rank_in l.marks) l.fn.exchange l.at l.steps.items

abbrev pub decreases-loop-link : goal.decreases-loop-link
decreases-loop-link g l = 2 * (g.N.CodeNet.net l.net).exchanges - unwrap_or (rank_in l.marks l.at) 0
