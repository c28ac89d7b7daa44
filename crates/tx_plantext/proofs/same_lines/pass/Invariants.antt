use Rattle.tx_plantext.proofs.Common.{ℕ, List, length, StandAmong}
use Rattle.tx_plantext.proofs.same_lines.pass.Given as goal

-- what stands among the lines that are left stands among all
abbrev pub invariant-lines : goal.invariant-lines
invariant-lines l = (xs : List (List ℕ)) → StandAmong xs l.lines → StandAmong xs l.initial.lines

abbrev pub decreases-lines : goal.decreases-lines
decreases-lines l = length l.lines
