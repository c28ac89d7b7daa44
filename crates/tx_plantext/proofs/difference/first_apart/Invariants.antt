use Rattle.std.proofs.Common.{ℕ, ◌<◌}
use Rattle.tx_plantext.specs.Difference.{SameAt}
use Rattle.tx_plantext.proofs.difference.first_apart.Given as goal

abbrev pub invariant-loop-index : goal.invariant-loop-index
invariant-loop-index g l = (i : ℕ) → i < l.index → SameAt l.list l.old l.new i
