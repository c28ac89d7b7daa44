use Rattle.tx_lint.proofs.Common.{◌≡◌, false, take, list_any}
use Rattle.tx_lint.proofs.Warned.{has_end}
use Rattle.tx_lint.proofs.alone.is_alone.Given as goal

abbrev pub invariant-loop-index : goal.invariant-loop-index
invariant-loop-index g l = list_any (has_end l.exchange) (take l.index l.plan.groups) ≡ false
