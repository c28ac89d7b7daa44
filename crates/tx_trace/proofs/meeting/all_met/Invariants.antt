use Rattle.tx_trace.proofs.Common.{◌≡◌, length, met_before, AreMarksOf}
use Rattle.tx_trace.proofs.meeting.all_met.Given as goal

abbrev pub invariant-loop-index : goal.invariant-loop-index
invariant-loop-index g l =
    record { long : length l.marks.items ≡ length l.plan.exchanges; marked : AreMarksOf l.met.items l.marks.items; so_far : l.met.items ≡ met_before l.plan l.code l.fn.start l.index }
