use Rattle.std.proofs.Common.{◌-◌, length}
use Rattle.tx_jobs.proofs.Taking.{Taken}
use Rattle.tx_jobs.proofs.seen.Seen.take.Given as goal

abbrev pub invariant-loop-taken : goal.invariant-loop-taken
invariant-loop-taken l = Taken l.fn.self l.bytes l.self l.taken

abbrev pub decreases-loop-taken : goal.decreases-loop-taken
decreases-loop-taken l = length l.bytes - l.taken
