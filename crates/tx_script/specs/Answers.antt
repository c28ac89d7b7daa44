-- What a run answers: what it read, what it wrote, and where it left the network.
use Rattle.std.specs.Prelude.{◌≡◌, ◌⊎◌, ℕ, ◌+◌, Bool, true, false, List, [], ◌∷◌, ◌++◌, length, None, Result, Ok, Err}
use Rattle.std.specs.Io.KnownBytes.{append_known, IsAtEnd}
use Rattle.tx_text.specs.declared.frame.FaultKind.{FaultKind}
use Rattle.tx_text.specs.declared.frame.FaultKind.TheVariants.{Frame, Word}
use Rattle.tx_text.specs.declared.frame.FrameFault.TheVariants.{Read as line_read}
use Rattle.tx_text.specs.Ends.{StopsIn, Input, Output}
use Rattle.tx_text.specs.Told.{Ending, AtEnd, Cut}
use Rattle.tx_text.specs.Frame.{ReadsOn, EndsAs, Stands}
use Rattle.tx_text.specs.Said.{is_no_room}
use Rattle.tx_plan.specs.Plan.{Plan}
use Rattle.tx_machine.specs.declared.event.Event.{Event}
use Rattle.tx_machine.specs.State.{State}
use Rattle.tx_machine.specs.Refusals.{refusal}
use Rattle.tx_machine.specs.Step.{takes_memory}
use Rattle.tx_machine.specs.Runs.{Moment, moment, state_after}
use Rattle.tx_machine.specs.Drained.{drained}
use Rattle.tx_script.specs.declared.script_word.ScriptWord.{ScriptWord}
use Rattle.tx_script.specs.declared.run_fault.RunFault.{RunFault}
use Rattle.tx_script.specs.declared.run_cause.RunCause.{RunCause}
use Rattle.tx_script.specs.declared.run_cause.RunCause.TheVariants.{Read, Write, Script as OfScript, NoMemory}
use Rattle.tx_script.specs.declared.summary.Summary.{Summary}
use Rattle.tx_script.specs.Script.{Script, whole, faulty, after_events, script_of}
use Rattle.tx_script.specs.Output.{events_text, end_text, output, summary_of}
use Rattle.tx_script.specs.Untold.{IsUntold}

-- a network as it was made: without calls and tickets
pub record IsFresh (s : State) : Type 0 where
  pub no_calls : s.calls ≡ []
  pub no_tickets : s.tickets ≡ []

-- A network: the state that it was in, and is in; and that it is as it was.
pub record States : Type 1 where
  pub old : State
  pub new : State
  pub unchanged : Type 0

-- the states of one network
abbrev pub states : {N : Type 0} → (state : N → State) → (old new : N) → States
states state old new = record { old = state old; new = state new; unchanged = new ≡ old }

-- nothing was read, written or done
abbrev pub NothingDone : Input → States → Output → Type 0
NothingDone source net sink = source.unread × sink.silent × net.unchanged

-- the network after these events, with its tickets taken
abbrev pub settled_state : Plan → State → List Event → State
settled_state p s es = drained (state_after p s es) []

-- the moment of one event more
abbrev pub next : Plan → State → List Event → Event → Moment
next p s es e = moment p (state_after p s es) e

-- without memory for the reader of lines
abbrev pub is_reader_room : FaultKind ScriptWord → Bool
is_reader_room (Frame k) = is_no_room k
is_reader_room (Word w) = false

module _ (p : Plan) (source : Input) where
  -- the bytes that were read begin with these events, whatever follows
  pub record Begins (es : List Event) : Type 0 where
    pub to_come : Ending → List ℕ → Script
    pub reads : ReadsOn source.old source.new (script_of p)
        (λ e more. after_events es (to_come e more))

  -- the reader is at its end, and the whole text is a script of these events
  abbrev pub IsWhole : List Event → Type 0
  IsWhole es = EndsAs source.old source.new (script_of p) AtEnd (whole es) × IsAtEnd source.new

module _ (p : Plan) (source : Input) (net : States) (sink : Output) where
  -- All the output of a script was written, and nothing else; the network is as its events left it.
  pub record Ran (script : Script) : Type 0 where
    pub wrote : sink.new ≡ append_known sink.old (output p net.old script)
    pub network : net.new ≡ settled_state p net.old script.events

  -- The whole text is a script, and the summary counts its run.
  pub record RanWhole (summary : Summary) : Type 0 where
    pub events : List Event
    pub text : IsWhole p source events
    pub ran : Ran (whole events)
    pub counted : summary ≡ summary_of p net.old events

  -- The text is faulty after the events before this one.
  pub record RanToFault (event line : ℕ) (kind : FaultKind ScriptWord) : Type 0 where
    pub events : List Event
    pub number : event ≡ length events + 1
    pub text : Stands source.old source.new (script_of p) (faulty events line kind)
    pub ran : Ran (faulty events line kind)

  -- The source failed in a line, or met the bound on calls, after the events before this one.
  pub record RanToCut (event : ℕ) : Type 0 where
    pub events : List Event
    pub line : ℕ
    pub number : event ≡ length events + 1
    pub text : EndsAs source.old source.new (script_of p) Cut
        (faulty events line (Frame line_read))
    pub failed : source.broken
    pub ran : Ran (faulty events line (Frame line_read))

  -- Memory ran out in this event: the lines of those before it were written, and nothing of it was
  -- done. It takes memory, and would not be refused.
  pub record RanOutOfMemory (event : ℕ) : Type 0 where
    pub events : List Event
    pub hand : Event
    pub number : event ≡ length events + 1
    pub text : Begins p source (events ++ hand ∷ [])
    pub wrote : sink.new ≡ append_known sink.old (events_text p net.old events)
    pub network : net.new ≡ settled_state p net.old events
    pub asks : takes_memory hand ≡ true
    pub unrefused : refusal p net.new hand ≡ None

  -- A write failed in the lines of this event, which was done: those of the events before it were
  -- written, and of its own a front and not all.
  pub record FailedInEvent (event : ℕ) : Type 0 where
    pub events : List Event
    pub hand : Event
    pub number : event ≡ length events + 1
    pub text : Begins p source (events ++ hand ∷ [])
    pub untold : IsUntold p (next p net.old events hand) net.new
        (append_known sink.old (events_text p net.old events)) sink.new

  -- A write failed in the last line: the lines of all events were written, and of that line a front
  -- and not all.
  pub record FailedAtEnd (event : ℕ) : Type 0 where
    pub events : List Event
    pub number : event ≡ length events + 1
    pub text : IsWhole p source events
    pub front : StopsIn (append_known sink.old (events_text p net.old events)) sink.new
        (end_text (state_after p net.old events))
    pub network : net.new ≡ settled_state p net.old events

  -- Without memory for the reader of lines the first event and the first line are named, and
  -- nothing was touched.
  abbrev pub FaultyBy : Bool → ℕ → ℕ → FaultKind ScriptWord → Type 0
  FaultyBy true event line kind = (event ≡ 1) × (line ≡ 1) × NothingDone source net sink
  FaultyBy false event line kind = RanToFault event line kind

  -- a run stopped in this event, for this cause
  abbrev pub Stopped : ℕ → RunCause → Type 0
  Stopped event Read = RanToCut event
  Stopped event Write = FailedInEvent event ⊎ FailedAtEnd event
  Stopped event (OfScript f) = FaultyBy (is_reader_room f.kind) event f.line f.kind
  Stopped event NoMemory = RanOutOfMemory event

  -- what a run answers
  abbrev pub RunAnswers : Result Summary RunFault → Type 0
  RunAnswers (Ok summary) = RanWhole summary
  RunAnswers (Err f) = Stopped f.event f.cause

-- the sink's mark is set after a write fault, and otherwise as before
abbrev pub mark_by : Bool → RunCause → Bool
mark_by old Read = old
mark_by old Write = true
mark_by old (OfScript f) = old
mark_by old NoMemory = old

-- the sink's mark after a run
abbrev pub mark_after : Bool → Result Summary RunFault → Bool
mark_after old (Ok summary) = old
mark_after old (Err f) = mark_by old f.cause
