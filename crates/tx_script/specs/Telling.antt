-- What a run prints where more is asked for: the line of each event, and a summary of the run.
use Rattle.std.specs.Prelude.{ℕ, ◌+◌, Bool, if◌then◌else◌, List, [], ◌∷◌, ◌++◌, Option, None, Some, codes, decimal}
use Rattle.tx_text.specs.declared.frame.FaultKind.{FaultKind}
use Rattle.tx_plan.specs.Plan.{Plan}
use Rattle.tx_machine.specs.declared.event.Event.{Event}
use Rattle.tx_machine.specs.State.{State}
use Rattle.tx_machine.specs.Runs.{Moment, run, state_after}
use Rattle.tx_script.specs.declared.script_word.ScriptWord.{ScriptWord}
use Rattle.tx_script.specs.declared.teller.Telling.{Telling}
use Rattle.tx_script.specs.Events.{event_text}
use Rattle.tx_script.specs.Script.{Script}
use Rattle.tx_script.specs.Output.{moment_text, end_text}
use Rattle.tx_script.specs.Summaries.{summary_text}

-- EVENT and the number of an event
abbrev pub number_text : ℕ → List ℕ
number_text n = codes "EVENT " ++ (decimal n ++ codes " ")

-- EVENT, the number of an event and its line
abbrev pub echo_text : Plan → ℕ → Event → List ℕ
echo_text p n e = number_text n ++ event_text p e

-- the line of an event, where it is asked for
abbrev pub echo_asked : Bool → Plan → ℕ → Event → List ℕ
echo_asked asked p n e = if asked then echo_text p n e else []

-- the lines of one event, refused or not, by its number
abbrev pub told_moment : Plan → (echo : Bool) → ℕ → Moment → List ℕ
told_moment p echo n m = echo_asked echo p n m.event ++ moment_text p m

-- the lines of all events in turn, of which the first has this number
abbrev pub told_moments : Plan → (echo : Bool) → ℕ → List Moment → List ℕ
told_moments p echo n [] = []
told_moments p echo n (m ∷ ms) = told_moment p echo n m ++ told_moments p echo (n + 1) ms

-- those of a script's events, of which the first has the number 1
abbrev pub told_events : Plan → (echo : Bool) → State → List Event → List ℕ
told_events p echo s es = told_moments p echo 1 (run p s es)

-- a text, where it is asked for
abbrev pub if_asked : Bool → List ℕ → List ℕ
if_asked asked text = if asked then text else []

-- after the last line the summary; after a fault neither
abbrev pub told_last : Plan → Telling → State
    → List Event → Option (ℕ × FaultKind ScriptWord) → List ℕ
told_last p t s es None = end_text (state_after p s es)
    ++ if_asked t.summary (summary_text p (run p s es) (state_after p s es))
told_last p t s es (Some x) = []

-- The output of a script from a state on
abbrev pub told_output : Plan → Telling → State → Script → List ℕ
told_output p t s script = told_events p t.echo s script.events
    ++ told_last p t s script.events script.fault
