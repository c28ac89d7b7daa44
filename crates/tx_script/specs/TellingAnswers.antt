-- What a run answers that may print more than replies and tickets, and what it wrote.
use Rattle.std.specs.Prelude.{◌≡◌, ◌⊎◌, ℕ, ◌+◌, Bool, true, false, List, [], ◌∷◌, ◌++◌, length, Option, None, Result, Ok, Err}
use Rattle.std.specs.FinSet as set
use Rattle.std.specs.Io.KnownBytes.{append_known}
use Rattle.tx_text.specs.declared.frame.FaultKind.{FaultKind}
use Rattle.tx_text.specs.declared.frame.FaultKind.TheVariants.{Frame}
use Rattle.tx_text.specs.declared.frame.FrameFault.TheVariants.{Read as line_read}
use Rattle.tx_text.specs.Ends.{StopsIn, Input, Output}
use Rattle.tx_text.specs.Told.{Cut}
use Rattle.tx_text.specs.Frame.{EndsAs, Stands}
use Rattle.tx_plan.specs.Plan.{Plan}
use Rattle.tx_machine.specs.declared.event.Event.{Event}
use Rattle.tx_machine.specs.State.{State}
use Rattle.tx_machine.specs.Refusals.{refusal}
use Rattle.tx_machine.specs.Step.{takes_memory}
use Rattle.tx_machine.specs.Runs.{Moment}
use Rattle.tx_machine.specs.Drained.{drained}
use Rattle.tx_script.specs.declared.script_word.ScriptWord.{ScriptWord}
use Rattle.tx_script.specs.declared.run_fault.RunFault.{RunFault}
use Rattle.tx_script.specs.declared.run_cause.RunCause.{RunCause}
use Rattle.tx_script.specs.declared.run_cause.RunCause.TheVariants.{Read, Write, Script as OfScript, NoMemory}
use Rattle.tx_script.specs.declared.summary.Summary.{Summary}
use Rattle.tx_script.specs.Script.{Script, whole, faulty, script_of}
use Rattle.tx_script.specs.Output.{summary_of, tickets_made}
use Rattle.tx_script.specs.Answers.{States, NothingDone, settled_state, next, IsWhole, Begins, is_reader_room}
use Rattle.tx_script.specs.declared.teller.Telling.{Telling}
use Rattle.tx_script.specs.Telling.{echo_text, echo_asked, told_events, told_last, told_output}
use Rattle.tx_script.specs.Untold.{IsUntold}

-- no circuit is still to be released
abbrev pub NoneReleasing : State → Type 0
NoneReleasing s = s.releasing ≡ set.empty

-- In what follows a is what was written before, and t and b are the state and what was written
-- after.

-- A write failed in the event's own line, and no ticket was taken.
pub record StopsAtEcho (p : Plan) (n : ℕ) (m : Moment)
    (t : State) (a b : Option (List ℕ)) : Type 0 where
  pub front : StopsIn a b (echo_text p n m.event)
  pub network : t ≡ drained m.after (tickets_made m)

-- The event was done, and a write failed in its own line, where that is asked for, or after it.
abbrev pub StopsInLines : Plan → (echo : Bool)
    → ℕ → Moment → State → Option (List ℕ) → Option (List ℕ) → Type 0
StopsInLines p echo n m t a b = ((echo ≡ true) × StopsAtEcho p n m t a b)
    ⊎ IsUntold p m t (append_known a (echo_asked echo p n m.event)) b

module _ (p : Plan) (t : Telling) (source : Input) (net : States) (sink : Output) where
  -- All the output of a script was written, and nothing else; the network is as its events left it.
  pub record ToldRan (script : Script) : Type 0 where
    pub wrote : sink.new ≡ append_known sink.old (told_output p t net.old script)
    pub network : net.new ≡ settled_state p net.old script.events

  -- The whole text is a script, and the summary counts its run.
  pub record ToldWhole (summary : Summary) : Type 0 where
    pub events : List Event
    pub text : IsWhole p source events
    pub ran : ToldRan (whole events)
    pub counted : summary ≡ summary_of p net.old events

  -- The text is faulty after the events before this one.
  pub record ToldToFault (event line : ℕ) (kind : FaultKind ScriptWord) : Type 0 where
    pub events : List Event
    pub number : event ≡ length events + 1
    pub text : Stands source.old source.new (script_of p) (faulty events line kind)
    pub ran : ToldRan (faulty events line kind)

  -- The source failed in a line, or met the bound on calls, after the events before this one.
  pub record ToldToCut (event : ℕ) : Type 0 where
    pub events : List Event
    pub line : ℕ
    pub number : event ≡ length events + 1
    pub text : EndsAs source.old source.new (script_of p) Cut
        (faulty events line (Frame line_read))
    pub failed : source.broken
    pub ran : ToldRan (faulty events line (Frame line_read))

  -- Memory ran out in this event: the lines of those before it were written, and nothing of it was
  -- done or written.
  pub record ToldOutOfMemory (event : ℕ) : Type 0 where
    pub events : List Event
    pub hand : Event
    pub number : event ≡ length events + 1
    pub text : Begins p source (events ++ hand ∷ [])
    pub wrote : sink.new ≡ append_known sink.old (told_events p t.echo net.old events)
    pub network : net.new ≡ settled_state p net.old events
    pub asks : takes_memory hand ≡ true
    pub unrefused : refusal p net.new hand ≡ None

  -- A write failed in the lines of this event, which was done: those of the events before it were
  -- written, and of its own a front and not all.
  pub record StoppedInEvent (event : ℕ) : Type 0 where
    pub events : List Event
    pub hand : Event
    pub number : event ≡ length events + 1
    pub text : Begins p source (events ++ hand ∷ [])
    pub lines : StopsInLines p t.echo event (next p net.old events hand) net.new
        (append_known sink.old (told_events p t.echo net.old events)) sink.new

  -- A write failed after the lines of all events: these were written, and of the last line and the
  -- summary a front and not all.
  pub record StoppedAtEnd (event : ℕ) : Type 0 where
    pub events : List Event
    pub number : event ≡ length events + 1
    pub text : IsWhole p source events
    pub front : StopsIn (append_known sink.old (told_events p t.echo net.old events)) sink.new
        (told_last p t net.old events None)
    pub network : net.new ≡ settled_state p net.old events

  -- Without memory for the reader of lines the first event and the first line are named, and
  -- nothing was touched.
  abbrev pub FaultyTold : Bool → ℕ → ℕ → FaultKind ScriptWord → Type 0
  FaultyTold true event line kind = (event ≡ 1) × (line ≡ 1) × NothingDone source net sink
  FaultyTold false event line kind = ToldToFault event line kind

  -- Without memory for what is to be counted the first event is named, and nothing was touched.
  pub record HadNoTable (event : ℕ) : Type 0 where
    pub asked : t.summary ≡ true
    pub number : event ≡ 1
    pub none : NothingDone source net sink

  -- a run stopped in this event, for this cause
  abbrev pub StoppedTelling : ℕ → RunCause → Type 0
  StoppedTelling event Read = ToldToCut event
  StoppedTelling event Write = StoppedInEvent event ⊎ StoppedAtEnd event
  StoppedTelling event (OfScript f) = FaultyTold (is_reader_room f.kind) event f.line f.kind
  StoppedTelling event NoMemory = ToldOutOfMemory event ⊎ HadNoTable event

  -- What a run answers that prints more
  abbrev pub TellingAnswers : Result Summary RunFault → Type 0
  TellingAnswers (Ok summary) = ToldWhole summary
  TellingAnswers (Err f) = StoppedTelling f.event f.cause
