use Rattle.tx_lint.proofs.Common.{◌≡◌, take, flat_map, coming_of}
use Rattle.tx_lint.proofs.Warned.{told_of}
use Rattle.tx_lint.proofs.warnings.warnings_of.Given as goal

abbrev pub invariant-loop-i : goal.invariant-loop-i
invariant-loop-i g l = l.found.items ≡ flat_map (told_of l.plan l.risks (coming_of l.marks)) (take l.i l.entries)
