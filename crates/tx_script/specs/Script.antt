-- Scripts: the events that a text says, up to its end or its first fault.
use Rattle.std.specs.Prelude.{ℕ, List, [], ◌∷◌, ◌++◌, Option, None, Some, Result, Ok, Err, codes}
use Rattle.tx_text.specs.declared.frame.FaultKind.{FaultKind}
use Rattle.tx_text.specs.declared.frame.FaultKind.TheVariants.{Frame, Word}
use Rattle.tx_text.specs.declared.frame.FramePart.TheVariants.{Start}
use Rattle.tx_text.specs.Text.{lines_of}
use Rattle.tx_text.specs.Told.{Ending, told}
use Rattle.tx_text.specs.Frame.{Framed, Done, Stop, Headed, Has, header_of, framed}
use Rattle.tx_plan.specs.Plan.{Plan}
use Rattle.tx_machine.specs.declared.event.Event.{Event}
use Rattle.tx_script.specs.declared.script_word.ScriptWord.{ScriptWord}
use Rattle.tx_script.specs.Events.{event_of}

-- the events of a text before its end or its first fault, and that fault with its line
pub record Script : Type 0 where
  pub events : List Event
  pub fault : Option (ℕ × FaultKind ScriptWord)

-- these events, and no fault
abbrev pub whole : List Event → Script
whole es = record { events = es; fault = None }

-- these events, and then a fault in this line
abbrev pub faulty : List Event → ℕ → FaultKind ScriptWord → Script
faulty es n k = record { events = es; fault = Some (n, k) }

-- a script with these events before it
abbrev pub after_events : List Event → Script → Script
after_events es s = record { events = es ++ s.events; fault = s.fault }

-- line n says an event, and the script goes on; or its words have a fault, and the script ends
abbrev pub line_said : ℕ → Result Event ScriptWord → Script → Script
line_said n (Ok e) s = after_events (e ∷ []) s
line_said n (Err k) s = faulty [] n (Word k)

-- what the lines of a framed text say
unfoldable pub script_said : Plan → Framed → Script
script_said p Done = whole []
script_said p (Stop n k) = faulty [] n (Frame k)
script_said p (Headed v t) = script_said p t
script_said p (Has n ws t) = line_said n (event_of p ws) (script_said p t)

-- The grammar: the script that a text says, whichever way the text ends
abbrev pub script_of : Plan → Ending → List ℕ → Script
script_of p e text =
    script_said p (framed (header_of (codes "SCRIPT") 1) Start 1 (told e (lines_of text)))
