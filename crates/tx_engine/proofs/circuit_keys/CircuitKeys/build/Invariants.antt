use Rattle.std.proofs.Common.{◌≡◌, ◌≤◌, length, vec_len, vec_capacity}
use Rattle.tx_engine.proofs.WrittenKeys.{AreLong}
use Rattle.tx_engine.proofs.circuit_keys.CircuitKeys.build.Given as goal

abbrev pub invariant-loop-index : goal.invariant-loop-index
invariant-loop-index g l =
    (vec_len l.rows ≡ l.index) × (l.index-end ≡ length l.plan.groups) × (length l.plan.groups ≤ vec_capacity l.rows) × AreLong (λ row. row.items) l.plan l.rows.items
