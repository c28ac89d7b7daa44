-- Runs: lists of events, applied in turn.
use Rattle.std.specs.Prelude.{List, [], ◌∷◌, map, ℕ}
use Rattle.std.specs.List.{AllByRecursion}
use Rattle.tx_plan.specs.Plan.{Plan}
use Rattle.tx_machine.specs.declared.event.Event.{Event}
use Rattle.tx_machine.specs.declared.reply.Reply.{Reply}
use Rattle.tx_machine.specs.State.{State, opening}
use Rattle.tx_machine.specs.Step.{step}

-- one event of a run: the state before it, the reply to it and the state after it
pub record Moment : Type 0 where
  pub before : State
  pub event : Event
  pub reply : Reply
  pub after : State

-- the event of a run that comes to a state
abbrev pub moment : Plan → State → Event → Moment
moment p s e = record { before = s; event = e; reply = (step p s e).0; after = (step p s e).1 }

-- the steps in turn
abbrev pub run : Plan → State → List Event → List Moment
run p s [] = []
run p s (e ∷ es) = moment p s e ∷ run p (step p s e).1 es

-- the replies to a list of events
abbrev pub replies : Plan → State → List Event → List Reply
replies p s events = map (λ m. m.reply) (run p s events)

-- the state after a list of events
abbrev pub state_after : Plan → State → List Event → State
state_after p s [] = s
state_after p s (e ∷ es) = state_after p (step p s e).1 es

-- it holds in every state of every run: of every opening state, and after each event of every list
-- of events, refused ones and foreign ids included
abbrev pub InEveryState : Plan → (State → Type 0) → Type 0
InEveryState p Holds = (numbers count : ℕ) (events : List Event) → Holds (opening numbers count)
    × AllByRecursion (λ m. Holds m.after) (run p (opening numbers count) events)

-- it holds of every event of every run: of the state before it, the event and the reply to it
abbrev pub OfEveryEvent : Plan → (State → Event → Reply → Type 0) → Type 0
OfEveryEvent p Holds = (numbers count : ℕ) (events : List Event)
    → AllByRecursion (λ m. Holds m.before m.event m.reply) (run p (opening numbers count) events)
