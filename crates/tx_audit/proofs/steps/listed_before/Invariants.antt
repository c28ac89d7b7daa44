use Rattle.tx_audit.proofs.Common.{◌≡◌, ◌++◌, take, drop, listed_before}
use Rattle.tx_audit.proofs.steps.listed_before.Given as goal

abbrev pub invariant-loop-i : goal.invariant-loop-i
invariant-loop-i l = listed_before l.group l.list ≡ take l.i l.list ++ listed_before l.group (drop l.i l.list)
