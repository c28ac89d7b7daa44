-- How the only call of a network goes by a way.
use Rattle.std.specs.Prelude.{◌≡◌, ℕ, false, ◌==◌, if◌then◌else◌, List, [], ◌∷◌, map, Option, Some, None}
use Rattle.std.specs.List.{flat_map}
use Rattle.tx_plan.specs.Plan.{Plan, home_of}
use Rattle.tx_plan.specs.declared.ids.Line.{Line}
use Rattle.tx_rank.specs.Walks.{end_of, before_end, AllDiffer}
use Rattle.tx_machine.specs.declared.event.Event.{Event}
use Rattle.tx_machine.specs.declared.event.Event.TheVariants.{Key, Route, Confirm}
use Rattle.tx_machine.specs.declared.open_call.Hop.{Hop}
use Rattle.tx_machine.specs.declared.reply.Reply.{Reply}
use Rattle.tx_machine.specs.declared.reply.Reply.TheVariants.{Keyed, Seized, At, Connected, Answered}
use Rattle.tx_machine.specs.declared.cause.Service.{Service}
use Rattle.tx_machine.specs.declared.cause.Service.TheVariants.{Nc}
use Rattle.tx_machine.specs.State.{State, opening}
use Rattle.tx_machine.specs.Lines.{line_answer}
use Rattle.tx_machine.specs.Routing.{line_of}
use Rattle.tx_machine.specs.Runs.{replies, state_after}
use Rattle.tx_machine.specs.Step.{step}
use Rattle.tx_trace.specs.Ways.{comes_back}

-- a line keys the figures, and then Route and Confirm come in turn, once for each step of a way
abbrev pub events_along : Line → (keyed : List ℕ) → (way : List (ℕ × ℕ)) → List Event
events_along line keyed way = Key line keyed ∷ flat_map (λ s. Route 1 ∷ (Confirm 1 ∷ [])) way

-- the state after them
abbrev pub state_along : Plan → Line → (keyed : List ℕ) → (way : List (ℕ × ℕ)) → State
state_along p line keyed way = state_after p (opening 0 0) (events_along line keyed way)

-- the replies that tell of these hops: the circuit is seized, and the call is at its far exchange
abbrev pub replies_along : List Hop → List Reply
replies_along hops = Keyed 1 ∷ flat_map (λ h. Seized h.circuit ∷ (At h.far ∷ [])) hops

-- a call is connected to the line, or answered with the line's service code
abbrev pub line_reply : Line → Option Service → Reply
line_reply l None = Connected l
line_reply l (Some service) = Answered service

-- the last reply to a call for the code: that of the line at the home, and NC at another exchange y
abbrev pub last_reply : Plan → State → (c y : ℕ) → (keyed : List ℕ) → Reply
last_reply p s c y keyed =
    if y == home_of p c then line_reply (line_of p c keyed) (line_answer p s (line_of p c keyed))
    else Answered Nc

-- The only call goes from x by the way: in each hop by a circuit of the step's group to the step's
-- exchange. The way goes on from no exchange twice. One more Route, unless it has come back, gives
-- the last reply.
pub record GoesBy (p : Plan) (c x : ℕ) (line : Line) (keyed : List ℕ) (way : List (ℕ × ℕ))
    : Type 0 where
  pub hops : List Hop
  pub steps : map (λ h. (h.circuit.group, h.far)) hops ≡ way
  pub replied : replies p (opening 0 0) (events_along line keyed way) ≡ replies_along hops
  pub once : AllDiffer (before_end x way)
  pub ended : comes_back x way ≡ false → (step p (state_along p line keyed way) (Route 1)).0
      ≡ last_reply p (state_along p line keyed way) c (end_of x way) keyed
