-- Two calls that meet on a circuit.
use Rattle.std.specs.Prelude.{◌≡◌, ℕ, Some}
use Rattle.tx_plan.specs.declared.ids.Circuit.{Circuit}
use Rattle.tx_machine.specs.declared.open_call.Phase.TheVariants.{Calling}
use Rattle.tx_machine.specs.Confirming.{rival, thrown_back}
use Rattle.tx_engine.specs.inner.KeptCalls.{Kept, KeptCalls, kept_at}
use Rattle.tx_engine.specs.declared.head_on.Met.{Met}
use Rattle.tx_engine.specs.declared.engine.EngineState.{EngineState}
use Rattle.tx_engine.specs.inner.Sound.{state_of}

-- the call under a key has seized a circuit that the call under another key has seized from its
-- other end
pub record AreMeeting {A : Type 0} (n : EngineState A)
    (key other : ℕ) (x : Circuit) (k d : Kept) : Type 0 where
  pub one : kept_at n.calls key ≡ Some k
  pub two : kept_at n.calls other ≡ Some d
  pub calls : k.call.phase ≡ Calling x
  pub met : rival n.plan.now (state_of n) k.call x ≡ Some d.call

-- both calls are thrown back
pub record AreThrown (c : KeptCalls) (key other : ℕ) (k d : Kept) : Type 0 where
  pub one : kept_at c key ≡ Some (record k { call = thrown_back k.call })
  pub two : kept_at c other ≡ Some (record d { call = thrown_back d.call })

-- the call under the key has the number
abbrev pub IsMet : KeptCalls → Met → Type 0
IsMet c m = (k : Kept) × (kept_at c m.key ≡ Some k) × (k.call.number ≡ m.number)
