use Rattle.tx_order.proofs.Common.{◌≡◌, ℕ, ◌<◌, HasCleared}
use Rattle.tx_order.proofs.switching.confirm_stages.Given as goal

abbrev pub invariant-loop-stage : goal.invariant-loop-stage
invariant-loop-stage g l = record {
  same : l.order ≡ l.initial.order;
  cleared : (s : ℕ) → s < l.stage → HasCleared l.initial.order s;
}
