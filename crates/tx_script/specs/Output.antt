-- What a run writes, and what is counted of it.
use Rattle.std.specs.Prelude.{ℕ, List, [], ◌++◌, Option, None, Some, codes, decimal, drop, length}
use Rattle.std.specs.List.{flat_map, count_by, sum_by}
use Rattle.tx_text.specs.declared.frame.FaultKind.{FaultKind}
use Rattle.tx_plan.specs.Plan.{Plan}
use Rattle.tx_machine.specs.declared.event.Event.{Event}
use Rattle.tx_machine.specs.Ended.{Ended}
use Rattle.tx_machine.specs.State.{State}
use Rattle.tx_machine.specs.Runs.{Moment, run, state_after}
use Rattle.tx_machine.specs.Sound.{is_refused}
use Rattle.tx_tickets.specs.Texts.{reply_text, ticket_text}
use Rattle.tx_script.specs.declared.script_word.ScriptWord.{ScriptWord}
use Rattle.tx_script.specs.declared.summary.Summary.{Summary}
use Rattle.tx_script.specs.Script.{Script}

-- the tickets that an event made
abbrev pub tickets_made : Moment → List Ended
tickets_made m = drop (length m.before.tickets) m.after.tickets

-- the reply's line, and then those of the tickets, in order of their calls' numbers
abbrev pub moment_text : Plan → Moment → List ℕ
moment_text p m = reply_text p m.reply ++ flat_map (ticket_text p) (tickets_made m)

-- the lines of all events in turn
abbrev pub events_text : Plan → State → List Event → List ℕ
events_text p s es = flat_map (moment_text p) (run p s es)

-- END EVENTS, the accepted events, OPEN and the open calls
abbrev pub end_line : ℕ → ℕ → List ℕ
end_line events open_calls = codes "END EVENTS "
    ++ (decimal events ++ (codes " OPEN " ++ (decimal open_calls ++ codes "\n")))

-- the last line in a state
abbrev pub end_text : State → List ℕ
end_text s = end_line s.events (length s.calls)

-- after a fault there is no such line
abbrev pub last_text : State → Option (ℕ × FaultKind ScriptWord) → List ℕ
last_text s None = end_text s
last_text s (Some x) = []

-- The output of a script from a state on
abbrev pub output : Plan → State → Script → List ℕ
output p s script = events_text p s script.events
    ++ last_text (state_after p s script.events) script.fault

-- the accepted events, the events that were refused, the tickets, and the open calls
abbrev pub summary_of : Plan → State → List Event → Summary
summary_of p s es =
    record {
      events = (state_after p s es).events;
      refused = count_by (λ m. is_refused m.reply) (run p s es);
      tickets = sum_by (λ m. length (tickets_made m)) (run p s es);
      open_calls = length (state_after p s es).calls;
    }
