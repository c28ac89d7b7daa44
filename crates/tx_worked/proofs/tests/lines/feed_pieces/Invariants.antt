use Rattle.std.proofs.Common.{◌+◌, ◌≤◌, length}
use Rattle.tx_worked.proofs.tests.lines.feed_pieces.Given as goal

abbrev pub invariant-loop : goal.invariant-loop
invariant-loop l = l.feeder.start + length l.feeder.begun + length l.rest ≤ 1000
