use Rattle.tx_rank.specs.Walks.{net_of}
use Rattle.tx_rank.proofs.Marking.{IsMarking, left}
use Rattle.tx_rank.proofs.reaching.reached.Given as goal

abbrev pub invariant-loop-exchange : goal.invariant-loop-exchange
invariant-loop-exchange g l = IsMarking (net_of l.plan l.code) l.seen.items l.opened.items

abbrev pub decreases-loop-exchange : goal.decreases-loop-exchange
decreases-loop-exchange g l = left l.opened.items
