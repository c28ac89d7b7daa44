-- What was decided for a call that is routed.
use Rattle.std.specs.Prelude.{◌≡◌, ℕ, Some}
use Rattle.tx_machine.specs.declared.deciding.Decision.{Decision}
use Rattle.tx_machine.specs.declared.open_call.Phase.TheVariants.{Standing}
use Rattle.tx_machine.specs.Routing.{routed}
use Rattle.tx_machine.specs.inner.Decided.{carried_out}
use Rattle.tx_engine.specs.inner.KeptCalls.{Kept, kept_at}
use Rattle.tx_engine.specs.declared.engine.EngineState.{EngineState}
use Rattle.tx_engine.specs.inner.Sound.{state_of}

-- the call under a key stands, and this becomes of it where it is routed
pub record IsDecided {A : Type 0}
    (n : EngineState A) (key : ℕ) (k : Kept) (d : Decision) : Type 0 where
  pub kept : kept_at n.calls key ≡ Some k
  pub stands : k.call.phase ≡ Standing
  pub decides : routed n.plan.now (state_of n) k.call
      ≡ carried_out n.plan.now (state_of n) k.call.number d
