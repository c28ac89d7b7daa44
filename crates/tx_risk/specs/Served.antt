-- Calls while the groups of a risk are down.
use Rattle.std.specs.Prelude.{◌≡◌, ℕ, ◌<◌, true, false, List, Some, is_some}
use Rattle.std.specs.List.{AllByRecursion}
use Rattle.std.specs.FinSet as set
use Rattle.tx_plan.specs.Plan.{Plan}
use Rattle.tx_plan.specs.Codes.{code_of}
use Rattle.tx_plan.specs.Routes.{route_list}
use Rattle.tx_plan.specs.Among.{Among}
use Rattle.tx_machine.specs.declared.event.Event.{Event}
use Rattle.tx_machine.specs.declared.reply.Reply.{Reply}
use Rattle.tx_machine.specs.Call.{Call, call_of, start_of, exchange_of}
use Rattle.tx_machine.specs.State.{State, opening}
use Rattle.tx_machine.specs.InUse.{is_down, first_free, uses_group}
use Rattle.tx_machine.specs.Runs.{run, state_after}
use Rattle.tx_machine.specs.Step.{step}
use Rattle.tx_machine.specs.Excused.{routed_call, IsNcByCollision}
use Rattle.tx_risk.specs.Risks.{Risk, IsUncut}

-- it holds of the call that the event routes, if there is one
abbrev pub OfRouted : State → Event → (Call → Type 0) → Type 0
OfRouted s e Holds =
    (n : ℕ) (c : Call) → routed_call e ≡ Some n → call_of n s.calls ≡ Some c → Holds c

-- where this holds of it, the reply is NC only after a second head-on collision
abbrev pub ThroughIf : (Call → Type 0) → State → Event → Reply → Type 0
ThroughIf Holds s e r = OfRouted s e Holds → IsNcByCollision s r

-- where it started, its code is not cut off
abbrev pub StartsUncut : Plan → Risk → Call → Type 0
StartsUncut p risk c =
    (code : ℕ) → code_of p c.keyed ≡ Some code → IsUncut p risk code (start_of p c)

-- each group that it may try where it stands, and that does not go, is up and has a circuit free
-- there
abbrev pub OutsideFree : Plan → Risk → State → Call → Type 0
OutsideFree p risk s c =
    (code g : ℕ) → code_of p c.keyed ≡ Some code → Among g (route_list p (exchange_of p c) code)
    → risk g ≡ false → is_some (first_free p s (exchange_of p c) g) ≡ true

-- it uses no circuit of the risk
abbrev pub IsClear : Risk → Call → Type 0
IsClear risk c = (g : ℕ) → risk g ≡ true → uses_group g c ≡ false

-- all groups of the risk are down
abbrev pub AllDown : Risk → State → Type 0
AllDown risk s = (g : ℕ) → risk g ≡ true → is_down s g ≡ true

-- all of them are failed
abbrev pub AllFailed : Risk → State → Type 0
AllFailed risk s = (g : ℕ) → risk g ≡ true → set.contains s.failed g ≡ true

-- no open call is on a failed group
abbrev pub NoneOnFailed : State → Type 0
NoneOnFailed s =
    (g : ℕ) → set.contains s.failed g ≡ true → (c : Call) → Among c s.calls
    → uses_group g c ≡ false

-- all groups of a risk are down in a state of a run, and in each state of the run from there by
-- these events
pub record AreDownSince (p : Plan) (risk : Risk) (s : State) (events : List Event) : Type 0 where
  pub first : AllDown risk s
  pub later : AllByRecursion (λ m. AllDown risk m.after) (run p s events)

-- it holds of each call of a state that was keyed since another state: its number is greater than
-- the last one given then
abbrev pub OfKeyedSince : (before now : State) → (Call → Type 0) → Type 0
OfKeyedSince before now Holds = (c : Call) → Among c now.calls → before.numbers < c.number → Holds c

-- Calls that are keyed while all groups of a risk are down use none of them while they stay down.
abbrev pub KeyedSinceAreClear : Plan → Risk → Type 0
KeyedSinceAreClear p risk =
    (numbers count : ℕ) (before since : List Event)
    → AreDownSince p risk (state_after p (opening numbers count) before) since
    → OfKeyedSince (state_after p (opening numbers count) before)
    (state_after p (state_after p (opening numbers count) before) since) (IsClear risk)

-- Calls that are keyed where a risk does not cut off their code, while all its groups are down, are
-- answered NC only after a second head-on collision, while they stay down and each group that does
-- not go, of the list where the call stands, has a circuit free there.
abbrev pub KeyedSinceGetThrough : Plan → Risk → Type 0
KeyedSinceGetThrough p risk =
    (numbers count : ℕ) (before since : List Event)
    → AreDownSince p risk (state_after p (opening numbers count) before) since
    → (e : Event)
    → ThroughIf (λ c. ((state_after p (opening numbers count) before).numbers < c.number)
    × StartsUncut p risk c
    × OutsideFree p risk (state_after p (state_after p (opening numbers count) before) since) c)
    (state_after p (state_after p (opening numbers count) before) since) e
    (step p (state_after p (state_after p (opening numbers count) before) since) e).0
