-- Room of open calls, and what changes of them come to.
use Rattle.std.specs.Prelude.{◌≡◌, ℕ, ◌<◌, true, false, ◌==◌, [], ◌∷◌, ◌++◌, vec_len, vec_capacity, if◌then◌else◌}
use Rattle.tx_machine.specs.declared.open_call.Phase.TheVariants.{Standing}
use Rattle.tx_machine.specs.Call.{Call, is_calling}
use Rattle.tx_machine.specs.Routing.{in_phase}
use Rattle.tx_machine.specs.Confirming.{thrown_back}
use Rattle.tx_machine.specs.declared.open_call.OpenCall.{OpenCall}
use Rattle.tx_machine.specs.declared.plain.changing.Change.{Change}
use Rattle.tx_machine.specs.declared.plain.changing.Change.TheVariants.{To, Carry, ThrowBack}

-- a call that seizes a circuit has room for a hop
abbrev pub HasRoom : {A : Type 0} → OpenCall A → Type 0
HasRoom c = is_calling c.phase ≡ true → vec_len c.hops < vec_capacity c.hops

-- a call with the number has room for a hop
abbrev pub IsReady : {A : Type 0} → ℕ → OpenCall A → Type 0
IsReady n c = c.number ≡ n → vec_len c.hops < vec_capacity c.hops

-- what a change makes of a call
abbrev pub changed_call : Change → Call → Call
changed_call (To phase) c = in_phase phase c
changed_call (Carry h) c = record c { hops = c.hops ++ h ∷ []; phase = Standing; collided = false }
changed_call ThrowBack c = thrown_back c

-- what becomes of a call where those of a number change
abbrev pub change_at : ℕ → (Call → Call) → Call → Call
change_at n f c = if c.number == n then f c else c

-- a call that is not thrown back has room for a hop, if it has the number
abbrev pub CanChange : {A : Type 0} → Change → ℕ → OpenCall A → Type 0
CanChange (To phase) n c = IsReady n c
CanChange (Carry h) n c = IsReady n c
CanChange ThrowBack n c = Unit {0}
