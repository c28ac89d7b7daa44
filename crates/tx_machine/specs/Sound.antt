-- Sound plans, and the bound on the Routes of a call.
use Rattle.std.specs.Prelude.{ℕ, ◌+◌, ◌*◌, ◌≤◌, Bool, true, false, not, ◌&&◌, ◌==◌, if◌then◌else◌, List, [], ◌∷◌, Option, Some, None}
use Rattle.tx_plan.specs.Plan.{Plan}
use Rattle.tx_machine.specs.declared.event.Event.{Event}
use Rattle.tx_machine.specs.declared.reply.Reply.{Reply}
use Rattle.tx_machine.specs.declared.reply.Reply.TheVariants.{Refused}
use Rattle.tx_machine.specs.State.{opening}
use Rattle.tx_machine.specs.Runs.{Moment, run, InEveryState, OfEveryEvent}
use Rattle.tx_machine.specs.Safe.{IsSafe}
use Rattle.tx_machine.specs.Excused.{IsExcused, routed_call}

-- A plan is sound: from every opening state and for every list of events, every state of the run is
-- safe, and every NC is excused.
pub record IsSound (p : Plan) (limit spare : ℕ) : Type 0 where
  pub safe : InEveryState p (IsSafe p limit)
  pub excused : OfEveryEvent p (IsExcused p spare)

-- the reply is a refusal
abbrev pub is_refused : Reply → Bool
is_refused (Refused r) = true
is_refused other = false

-- the call that an event routes is that of the number
abbrev pub is_route_of : ℕ → Option ℕ → Bool
is_route_of n None = false
is_route_of n (Some m) = m == n

-- how many Routes of the call of a number were accepted
abbrev pub routes_of : ℕ → List Moment → ℕ
routes_of n [] = 0
routes_of n (m ∷ moments) = (if is_route_of n (routed_call m.event) && not (is_refused m.reply)
    then 1 else 0) + routes_of n moments

-- at most two Routes of one call at each exchange before the home of its code, and one there
abbrev pub HasFewRoutes : Plan → ℕ → Type 0
HasFewRoutes p limit = (numbers count : ℕ) (events : List Event) (n : ℕ)
    → routes_of n (run p (opening numbers count) events) ≤ 2 * limit + 3
