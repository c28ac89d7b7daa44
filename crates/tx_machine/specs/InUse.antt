-- The use of circuits, and which one an exchange chooses.
use Rattle.std.specs.Prelude.{ℕ, Bool, false, not, ◌&&◌, ◌||◌, ◌==◌, if◌then◌else◌, List, [], ◌∷◌, ◌++◌, map, find, Option, None, is_some}
use Rattle.std.specs.List.{list_any}
use Rattle.std.specs.FinSet as set
use Rattle.tx_plan.specs.Orders.{same_circuit}
use Rattle.tx_plan.specs.Plan.{Plan}
use Rattle.tx_plan.specs.Routes.{route_list}
use Rattle.tx_plan.specs.Circuits.{circuits_at}
use Rattle.tx_plan.specs.declared.ids.Circuit.{Circuit}
use Rattle.tx_machine.specs.Call.{Call, Phase, Standing, Calling, Connected, circuit_called, exchange_of}
use Rattle.tx_machine.specs.State.{State}

-- a call carries the circuits of its hops
abbrev pub circuits_carried : Call → List Circuit
circuits_carried c = map (λ h. h.circuit) c.hops

-- the call carries the circuit
abbrev pub carries : Call → Circuit → Bool
carries c x = list_any (λ h. same_circuit h.circuit x) c.hops

-- a call in this phase has seized the circuit
abbrev pub is_calling_on : Phase → Circuit → Bool
is_calling_on Standing x = false
is_calling_on (Calling y) x = same_circuit y x
is_calling_on (Connected l) x = false

-- a call that waits for the confirmation of a circuit has seized it
abbrev pub seizes : Call → Circuit → Bool
seizes c x = is_calling_on c.phase x

-- it has seized the circuit from the exchange where it stands
abbrev pub seizes_from : Plan → Call → Circuit → ℕ → Bool
seizes_from p c x exchange = seizes c x && (exchange_of p c == exchange)

-- the circuits that a call carries, and the one that it has seized
abbrev pub circuits_used : Call → List Circuit
circuits_used c = circuits_carried c ++ circuit_called c.phase

-- a call is on a group if it uses one of its circuits
abbrev pub uses_group : ℕ → Call → Bool
uses_group g c = list_any (λ x. x.group == g) (circuits_used c)

-- Free at an exchange: no call carries the circuit, it is not releasing, it is not out, and no call
-- has seized it from there. A seizure from the other end is not seen.
abbrev pub is_free_at : Plan → State → ℕ → Circuit → Bool
is_free_at p s exchange x =
    not (list_any (λ c. carries c x) s.calls) && (not (set.contains s.releasing x)
    && (not (set.contains s.out x) && not (list_any (λ c. seizes_from p c x exchange) s.calls)))

-- a group is down if it is failed or blocked
abbrev pub is_down : State → ℕ → Bool
is_down s g = set.contains s.failed g || set.contains s.blocked g

-- the circuit of a group that an exchange would seize: none of a group that is down, else the first
-- in its order that is free there
abbrev pub first_free : Plan → State → ℕ → ℕ → Option Circuit
first_free p s exchange g = if is_down s g then None
    else find (is_free_at p s exchange) (circuits_at p g exchange)

-- the circuit of the first of some groups that has one
abbrev pub first_in : (ℕ → Option Circuit) → List ℕ → Option Circuit
first_in look [] = None
first_in look (g ∷ gs) = if is_some (look g) then look g else first_in look gs

-- the circuit that an exchange chooses for a code: of the first group of its list that has one
abbrev pub choice : Plan → State → ℕ → ℕ → Option Circuit
choice p s exchange code = first_in (first_free p s exchange) (route_list p exchange code)
