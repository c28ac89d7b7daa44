-- What shows that a risk cuts off a code.
use Rattle.std.specs.Prelude.{◌≡◌, ℕ, ◌<◌, length, true, false, List, [], ◌∷◌, ◌++◌, map, Some}
use Rattle.tx_plan.specs.Plan.{Plan}
use Rattle.tx_plan.specs.Codes.{code_of}
use Rattle.tx_plan.specs.declared.ids.Circuit.{Circuit}
use Rattle.tx_machine.specs.declared.event.Event.{Event}
use Rattle.tx_machine.specs.declared.event.Event.TheVariants.{Route}
use Rattle.tx_machine.specs.declared.reply.Reply.TheVariants.{Answered}
use Rattle.tx_machine.specs.declared.cause.Service.TheVariants.{Nc}
use Rattle.tx_machine.specs.Call.{Call, start_of}
use Rattle.tx_machine.specs.State.{State, opening}
use Rattle.tx_machine.specs.InUse.{carries, is_free_at, is_down}
use Rattle.tx_machine.specs.Runs.{state_after}
use Rattle.tx_machine.specs.Unrefused.{NoneRefused}
use Rattle.tx_machine.specs.Step.{step}
use Rattle.tx_risk.specs.Risks.{Risk}

-- All groups of the risk are down, and no others.
pub record IsDownAlone (p : Plan) (risk : Risk) (s : State) : Type 0 where
  pub all : (g : ℕ) → g < length p.groups → risk g ≡ true → is_down s g ≡ true
  pub only : (g : ℕ) → is_down s g ≡ true → risk g ≡ true

-- The one open call started at x for the code and has gone by these steps. Each circuit that it
-- does not carry is free at each exchange.
pub record IsAloneOnWay (p : Plan) (code x : ℕ) (steps : List (ℕ × ℕ)) (s : State) : Type 0 where
  pub call : Call
  pub alone : s.calls ≡ call ∷ []
  pub start : start_of p call ≡ x
  pub keyed : code_of p call.keyed ≡ Some code
  pub way : map (λ h. (h.circuit.group, h.far)) call.hops ≡ steps
  pub free : (exchange : ℕ) (y : Circuit) → carries call y ≡ false
      → is_free_at p s exchange y ≡ true

-- The events show the cut: none of them is refused, nor is one Route more, of the one open call,
-- which is answered NC.
pub record IsShown (p : Plan) (risk : Risk) (code x : ℕ) (steps : List (ℕ × ℕ))
    (events : List Event) : Type 0 where
  pub unrefused : NoneRefused p (opening 0 0) (events ++ Route 1 ∷ [])
  pub nc : (step p (state_after p (opening 0 0) events) (Route 1)).0 ≡ Answered Nc
  pub down : IsDownAlone p risk (state_after p (opening 0 0) events)
  pub on_way : IsAloneOnWay p code x steps (state_after p (opening 0 0) events)
