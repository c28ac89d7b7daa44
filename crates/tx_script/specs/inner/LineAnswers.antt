-- What the answer to one line of a script is: what a run comes to is made of these.
use Rattle.std.specs.Prelude.{◌≡◌, ℕ, Bool, true, List, [], length, Option, None, Result, Ok, Err}
use Rattle.std.specs.Io.KnownBytes.{append_known}
use Rattle.tx_text.specs.declared.frame.FaultKind.TheVariants.{Word}
use Rattle.tx_plan.specs.Plan.{Plan}
use Rattle.tx_machine.specs.declared.event.Event.{Event}
use Rattle.tx_machine.specs.State.{State}
use Rattle.tx_machine.specs.Refusals.{refusal}
use Rattle.tx_machine.specs.Step.{takes_memory}
use Rattle.tx_machine.specs.Runs.{Moment, moment}
use Rattle.tx_machine.specs.Drained.{drained}
use Rattle.tx_machine.specs.Sound.{is_refused}
use Rattle.tx_script.specs.declared.runner.Answered.{Answered}
use Rattle.tx_script.specs.declared.run_cause.RunCause.{RunCause}
use Rattle.tx_script.specs.declared.run_cause.RunCause.TheVariants.{Read, Write, Script as OfScript, NoMemory}
use Rattle.tx_script.specs.declared.script_word.ScriptWord.{ScriptWord}
use Rattle.tx_script.specs.Events.{Said}
use Rattle.tx_script.specs.Output.{tickets_made}
use Rattle.tx_script.specs.Answers.{mark_by}
use Rattle.tx_script.specs.Telling.{told_moment}
use Rattle.tx_script.specs.TellingAnswers.{StopsInLines}

-- whether it was refused, and how many tickets it made
abbrev pub count_of : Moment → Answered
count_of m = record { refused = is_refused m.reply; tickets = length (tickets_made m) }

-- nothing was done, and the event takes memory and would not be refused
pub record IsUndone (p : Plan) (e : Event) (s t : State) (a b : Option (List ℕ)) : Type 0 where
  pub network : t ≡ s
  pub written : b ≡ a
  pub asks : takes_memory e ≡ true
  pub unrefused : refusal p s e ≡ None

-- In what follows s and a are the state and what was written before, t and b after.

-- the line says no event, and nothing was done
pub record IsNoEvent (n : ℕ) (k : ScriptWord)
    (s t : State) (a b : Option (List ℕ)) (cause : RunCause) : Type 0 where
  pub fault : cause ≡ OfScript (record { line = n; kind = Word k })
  pub network : t ≡ s
  pub written : b ≡ a

-- the event was done and counted, its lines were written, and its tickets were taken
pub record IsTold (p : Plan) (echo : Bool) (n : ℕ)
    (e : Event) (s t : State) (a b : Option (List ℕ)) (count : Answered) : Type 0 where
  pub counted : count ≡ count_of (moment p s e)
  pub wrote : b ≡ append_known a (told_moment p echo n (moment p s e))
  pub network : t ≡ drained (moment p s e).after []

-- the event was not answered whole, for this cause
abbrev pub Untold : Plan → (echo : Bool) → ℕ → Event
    → State → State → Option (List ℕ) → Option (List ℕ) → RunCause → Type 0
Untold p echo n e s t a b Read = ⊥
Untold p echo n e s t a b Write = StopsInLines p echo n (moment p s e) t a b
Untold p echo n e s t a b (OfScript f) = ⊥
Untold p echo n e s t a b NoMemory = IsUndone p e s t a b

-- The answer to an event of this number
abbrev pub EventTold : Plan → (echo : Bool) → ℕ
    → Event → State → State → Option (List ℕ) → Option (List ℕ) → Result Answered RunCause → Type 0
EventTold p echo n e s t a b (Ok count) = IsTold p echo n e s t a b count
EventTold p echo n e s t a b (Err cause) = Untold p echo n e s t a b cause

-- The answer to a line n, whose words say an event or have a fault; the next event has the number k
abbrev pub LineTold : Plan → (echo : Bool) → (n k : ℕ)
    → Said → State → State → Option (List ℕ) → Option (List ℕ) → Result Answered RunCause → Type 0
LineTold p echo n k (Ok e) s t a b r = EventTold p echo k e s t a b r
LineTold p echo n k (Err word) s t a b (Ok count) = ⊥
LineTold p echo n k (Err word) s t a b (Err cause) = IsNoEvent n word s t a b cause

-- the sink's mark is set after a write fault, and otherwise as before
abbrev pub mark_with : Bool → Result Answered RunCause → Bool
mark_with old (Ok count) = old
mark_with old (Err cause) = mark_by old cause
