use Rattle.std.proofs.Common.{◌≡◌, None}
use Rattle.tx_worked.proofs.tests.frames.tell_frame.Given as goal

abbrev pub invariant-loop : goal.invariant-loop
invariant-loop g l = l.reader.reader.feed.fault ≡ None
