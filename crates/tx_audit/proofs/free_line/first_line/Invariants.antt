use Rattle.tx_audit.proofs.Common.{◌≡◌, ◌-◌, length, find, range_with_len, first_code, calls_from}
use Rattle.tx_audit.proofs.free_line.first_line.Given as goal

abbrev pub invariant-loop-index : goal.invariant-loop-index
invariant-loop-index g l = first_code l.plan l.start ≡ find (calls_from l.plan l.start) (range_with_len l.index (length l.plan.codes - l.index))
