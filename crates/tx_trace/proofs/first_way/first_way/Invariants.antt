use Rattle.std.proofs.Common.{◌-◌, length}
use Rattle.tx_trace.proofs.FirstWay.{IsGoing}
use Rattle.tx_trace.proofs.first_way.first_way.Given as goal

abbrev pub invariant-loop-code : goal.invariant-loop-code
invariant-loop-code g l = IsGoing l.plan l.code l.fn.start l.last l.way.items l.passed.items

abbrev pub decreases-loop-code : goal.decreases-loop-code
decreases-loop-code g l = length l.plan.exchanges - length l.way.items
