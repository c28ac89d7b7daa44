use Rattle.tx_trace.proofs.Common.{◌≡◌, fold, meet, AreMarksOf}
use Rattle.tx_trace.proofs.Rounds.{ends_before}
use Rattle.tx_trace.proofs.meeting.meet_ends.Given as goal

abbrev pub invariant-loop-i : goal.invariant-loop-i
invariant-loop-i g l = record { marked : AreMarksOf l.met.items l.marks; so_far : l.met.items ≡ fold meet l.fn.met.items (ends_before l.plan l.code l.exchange l.i) }
