-- Answers NC that are excused.
use Rattle.std.specs.Prelude.{◌≡◌, ℕ, ◌<◌, ◌≤◌, true, false, ◌⊎◌, length, Option, Some, None, is_some, count_by}
use Rattle.std.specs.List.{AllByRecursion, range_with_len}
use Rattle.tx_plan.specs.Plan.{Plan}
use Rattle.tx_plan.specs.Codes.{code_of}
use Rattle.tx_plan.specs.Routes.{route_list}
use Rattle.tx_plan.specs.Circuits.{is_circuit, may_seize}
use Rattle.tx_plan.specs.declared.ids.Circuit.{Circuit}
use Rattle.tx_machine.specs.declared.event.Event.{Event}
use Rattle.tx_machine.specs.declared.event.Event.TheVariants.{Route}
use Rattle.tx_machine.specs.declared.reply.Reply.{Reply}
use Rattle.tx_machine.specs.declared.reply.Reply.TheVariants.{Answered, HeadOn}
use Rattle.tx_machine.specs.declared.cause.Service.{Service}
use Rattle.tx_machine.specs.declared.cause.Service.TheVariants.{Nc}
use Rattle.tx_machine.specs.Call.{Call, call_of, exchange_of}
use Rattle.tx_machine.specs.State.{State}
use Rattle.tx_machine.specs.InUse.{is_down, is_free_at, first_free}

-- the group is down, or has no circuit free at the exchange
abbrev pub IsTaken : Plan → State → ℕ → ℕ → Type 0
IsTaken p s exchange g = (is_down s g ≡ true)
    ⊎ ((x : Circuit) → is_circuit p x ≡ true → x.group ≡ g → is_free_at p s exchange x ≡ false)

-- the list of an exchange for a code has more groups than spare, and each is taken
pub record AllTaken (p : Plan) (s : State) (spare exchange code : ℕ) : Type 0 where
  pub many : spare < length (route_list p exchange code)
  pub each : AllByRecursion (IsTaken p s exchange) (route_list p exchange code)

-- the call of the number had collided at the exchange where it stood
pub record HadCollided (s : State) (n : ℕ) : Type 0 where
  pub call : Call
  pub open' : call_of n s.calls ≡ Some call
  pub collided : call.collided ≡ true

-- where the call of the number stood, all groups for its code were taken, more than spare
pub record FoundNone (p : Plan) (s : State) (spare n : ℕ) : Type 0 where
  pub call : Call
  pub open' : call_of n s.calls ≡ Some call
  pub code : ℕ
  pub keyed : code_of p call.keyed ≡ Some code
  pub taken : AllTaken p s spare (exchange_of p call) code

-- the call that an event routes
abbrev pub routed_call : Event → Option ℕ
routed_call (Route n) = Some n
routed_call e = None

-- NC to the call that an event routes is excused where it found no circuit; the other service codes
-- need no excuse
abbrev pub IsExcusedTo : Plan → ℕ → State → Option ℕ → Service → Type 0
IsExcusedTo p spare s (Some n) Nc = FoundNone p s spare n
IsExcusedTo p spare s None Nc = ⊥
IsExcusedTo p spare s n other = Unit {0}

-- A collision ends only a call that had collided at its exchange before; no call is answered NC.
abbrev pub IsNcByCollision : State → Reply → Type 0
IsNcByCollision s (Answered Nc) = ⊥
IsNcByCollision s (HeadOn a b a_stands b_stands) = (a_stands ≡ false → HadCollided s a)
    × (b_stands ≡ false → HadCollided s b)
IsNcByCollision s other = Unit {0}

-- An answer NC to a routed call is excused where it found no circuit in a list of more groups than
-- spare. The NC of a call that a collision ends is excused where it had collided at its exchange
-- before. Other replies need no excuse.
abbrev pub IsExcused : Plan → ℕ → State → Event → Reply → Type 0
IsExcused p spare s e (Answered service) = IsExcusedTo p spare s (routed_call e) service
IsExcused p spare s e other = IsNcByCollision s other

-- no more groups of the plan are down than this
abbrev pub FewDown : Plan → State → ℕ → Type 0
FewDown p s spare = count_by (is_down s) (range_with_len 0 (length p.groups)) ≤ spare

-- in each group that is not down and that may be seized where the routed call stands, a circuit is
-- free there
abbrev pub OthersFree : Plan → State → Event → Type 0
OthersFree p s e = (n : ℕ) (c : Call) → routed_call e ≡ Some n
    → call_of n s.calls ≡ Some c → (g : ℕ) → may_seize p g (exchange_of p c) ≡ true
    → is_down s g ≡ false → is_some (first_free p s (exchange_of p c) g) ≡ true
