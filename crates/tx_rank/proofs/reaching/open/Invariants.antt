use Rattle.tx_rank.proofs.Common.{take, route_list, net_of}
use Rattle.tx_rank.proofs.Marking.{IsOpening}
use Rattle.tx_rank.proofs.reaching.open.Given as goal

abbrev pub invariant-loop-i : goal.invariant-loop-i
invariant-loop-i g l = IsOpening (net_of l.plan l.code) l.exchange (take l.i (route_list l.plan l.exchange l.code)) l.fn.seen l.seen
