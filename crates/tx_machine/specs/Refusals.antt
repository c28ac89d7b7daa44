-- Which events are refused, and why.
use Rattle.std.specs.Prelude.{ℕ, ◌-◌, ◌^◌, Bool, false, not, ◌&&◌, nat_le, List, [], ◌∷◌, ◌++◌, Option, Some, None, is_some, is_none, slice_get}
use Rattle.std.specs.FinSet as set
use Rattle.tx_plan.specs.Plan.{Plan}
use Rattle.tx_plan.specs.Lines.{is_line}
use Rattle.tx_plan.specs.Circuits.{is_circuit}
use Rattle.tx_plan.specs.Declaring.{first_true}
use Rattle.tx_machine.specs.declared.event.Event.{Event}
use Rattle.tx_machine.specs.declared.event.Event.TheVariants.{Key, Route, Confirm, Clear, Released, Fail, Restore, Block, Unblock, CircuitOut, CircuitIn, LineFault, LineMend, LineAway, LineBack}
use Rattle.tx_machine.specs.declared.open_call.Party.TheVariants.{Caller, Called}
use Rattle.tx_machine.specs.declared.refusal.Refusal.{Refusal}
use Rattle.tx_machine.specs.declared.refusal.Refusal.TheVariants.{UnknownCall, NotStanding, NotCalling, NotConnected, UnknownLine, LineEngaged, LineOutOfOrder, AlreadySo, NotSo, NotReleasing, UnknownCircuit, Exhausted}
use Rattle.tx_machine.specs.Call.{Call, Phase, call_of, is_standing, is_calling, is_connected}
use Rattle.tx_machine.specs.State.{State}
use Rattle.tx_machine.specs.Lines.{is_engaged}

-- there is such a call, and it is in another phase
abbrev pub is_other : (Phase → Bool) → Option Call → Bool
is_other test None = false
is_other test (Some c) = not (test c.phase)

-- the plan has the group
abbrev pub is_group : Plan → ℕ → Bool
is_group p g = is_some (slice_get p.groups g)

-- Each refusal that may come, in the order of their numbers, with where it applies. For what
-- the plan does not have, AlreadySo and NotSo do not come.
abbrev pub refusals : Plan → State → Event → List (Bool × Refusal)
refusals p s (Key line keyed) =
    (not (is_line p line), UnknownLine)
    ∷ (is_engaged s line, LineEngaged)
    ∷ (set.contains s.faulty line, LineOutOfOrder)
    ∷ (nat_le (2 ^ 32 - 1) s.numbers, Exhausted) ∷ []
refusals p s (Route n) = (is_none (call_of n s.calls), UnknownCall)
    ∷ (is_other is_standing (call_of n s.calls), NotStanding) ∷ []
refusals p s (Confirm n) = (is_none (call_of n s.calls), UnknownCall)
    ∷ (is_other is_calling (call_of n s.calls), NotCalling) ∷ []
refusals p s (Clear n Caller) = (is_none (call_of n s.calls), UnknownCall) ∷ []
refusals p s (Clear n Called) = (is_none (call_of n s.calls), UnknownCall)
    ∷ (is_other is_connected (call_of n s.calls), NotConnected) ∷ []
refusals p s (Released x) = (is_circuit p x && not (set.contains s.releasing x), NotReleasing)
    ∷ (not (is_circuit p x), UnknownCircuit) ∷ []
refusals p s (Fail g) = (is_group p g && set.contains s.failed g, AlreadySo)
    ∷ (not (is_group p g), UnknownCircuit) ∷ []
refusals p s (Restore g) = (is_group p g && not (set.contains s.failed g), NotSo)
    ∷ (not (is_group p g), UnknownCircuit) ∷ []
refusals p s (Block g) = (is_group p g && set.contains s.blocked g, AlreadySo)
    ∷ (not (is_group p g), UnknownCircuit) ∷ []
refusals p s (Unblock g) = (is_group p g && not (set.contains s.blocked g), NotSo)
    ∷ (not (is_group p g), UnknownCircuit) ∷ []
refusals p s (CircuitOut x) = (is_circuit p x && set.contains s.out x, AlreadySo)
    ∷ (not (is_circuit p x), UnknownCircuit) ∷ []
refusals p s (CircuitIn x) = (is_circuit p x && not (set.contains s.out x), NotSo)
    ∷ (not (is_circuit p x), UnknownCircuit) ∷ []
refusals p s (LineFault l) =
    (not (is_line p l), UnknownLine) ∷ (set.contains s.faulty l, AlreadySo) ∷ []
refusals p s (LineMend l) =
    (not (is_line p l), UnknownLine) ∷ (not (set.contains s.faulty l), NotSo) ∷ []
refusals p s (LineAway l) =
    (not (is_line p l), UnknownLine) ∷ (set.contains s.away l, AlreadySo) ∷ []
refusals p s (LineBack l) =
    (not (is_line p l), UnknownLine) ∷ (not (set.contains s.away l), NotSo) ∷ []

-- The refusal of the least number, if one applies. The last is that of any event where all events
-- were counted.
abbrev pub refusal : Plan → State → Event → Option Refusal
refusal p s e = first_true (refusals p s e ++ (nat_le (2 ^ 64 - 1) s.events, Exhausted) ∷ [])
