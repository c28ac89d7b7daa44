-- An answer of a run, where less is said of why its source ended and of what was left as it was.
use Rattle.tx_script.proofs.Common.{ℕ, Bool, true, false, List, Result, Ok, Err, inl, inr, FaultKind, Input, Output, Plan, Event, RunCause, RunFault, ScriptWord, Summary, Telling, Script, ToldRan, FaultyTold, StoppedTelling, TellingAnswers}
use Rattle.tx_script.specs.declared.run_cause.RunCause.TheVariants.{Read, Write, Script as OfScript, NoMemory}
use Rattle.tx_script.specs.Answers.{States, NothingDone, Begins, Ran, FaultyBy, Stopped, RunAnswers, is_reader_room}

module _ (p : Plan) (source : Input) (net : States) (sink : Output) (D V J : Type 0)
    (f : source.broken → D) (g : source.unread → V) (h : net.unchanged → J) where
  abbrev source_as : Input
  source_as = record source { broken = D; unread = V }

  abbrev net_as : States
  net_as = record net { unchanged = J }

  nothing_as : NothingDone source net sink → NothingDone source_as net_as sink
  nothing_as none = (g none.0, none.1, h none.2)

  begins_as : {es : List Event} → Begins p source es → Begins p source_as es
  begins_as r = record { to_come = r.to_come; reads = r.reads }

  -- ---- a run

  ran_as : {s : Script} → Ran p source net sink s → Ran p source_as net_as sink s
  ran_as r = record { wrote = r.wrote; network = r.network }

  faulty_as : (room : Bool) (event line : ℕ) (kind : FaultKind ScriptWord)
      → FaultyBy p source net sink room event line kind
      → FaultyBy p source_as net_as sink room event line kind
  faulty_as true event line kind r = (r.0, r.1, nothing_as r.2)
  faulty_as false event line kind r =
      record { events = r.events; number = r.number; text = r.text; ran = ran_as r.ran }

  stopped_as : (event : ℕ) (cause : RunCause)
      → Stopped p source net sink event cause → Stopped p source_as net_as sink event cause
  stopped_as event Read r = record {
    events = r.events;
    line = r.line;
    number = r.number;
    text = r.text;
    failed = f r.failed;
    ran = ran_as r.ran;
  }
  stopped_as event Write (inl r) = inl (record {
    events = r.events;
    hand = r.hand;
    number = r.number;
    text = begins_as r.text;
    untold = r.untold;
  })
  stopped_as event Write (inr r) = inr (record {
    events = r.events;
    number = r.number;
    text = r.text;
    front = r.front;
    network = r.network;
  })
  stopped_as event (OfScript s) r = faulty_as (is_reader_room s.kind) event s.line s.kind r
  stopped_as event NoMemory r = record {
    events = r.events;
    hand = r.hand;
    number = r.number;
    text = begins_as r.text;
    wrote = r.wrote;
    network = r.network;
    asks = r.asks;
    unrefused = r.unrefused;
  }

  pub run_as : (o : Result Summary RunFault)
      → RunAnswers p source net sink o → RunAnswers p source_as net_as sink o
  run_as (Ok summary) r =
      record { events = r.events; text = r.text; ran = ran_as r.ran; counted = r.counted }
  run_as (Err q) r = stopped_as q.event q.cause r

  -- ---- a run that tells more

  module _ (t : Telling) where
    told_as : {s : Script} → ToldRan p t source net sink s → ToldRan p t source_as net_as sink s
    told_as r = record { wrote = r.wrote; network = r.network }

    faulty_told_as : (room : Bool) (event line : ℕ) (kind : FaultKind ScriptWord)
        → FaultyTold p t source net sink room event line kind
        → FaultyTold p t source_as net_as sink room event line kind
    faulty_told_as true event line kind r = (r.0, r.1, nothing_as r.2)
    faulty_told_as false event line kind r =
        record { events = r.events; number = r.number; text = r.text; ran = told_as r.ran }

    stopped_telling_as : (event : ℕ) (cause : RunCause)
        → StoppedTelling p t source net sink event cause
        → StoppedTelling p t source_as net_as sink event cause
    stopped_telling_as event Read r = record {
      events = r.events;
      line = r.line;
      number = r.number;
      text = r.text;
      failed = f r.failed;
      ran = told_as r.ran;
    }
    stopped_telling_as event Write (inl r) = inl (record {
      events = r.events;
      hand = r.hand;
      number = r.number;
      text = begins_as r.text;
      lines = r.lines;
    })
    stopped_telling_as event Write (inr r) = inr (record {
      events = r.events;
      number = r.number;
      text = r.text;
      front = r.front;
      network = r.network;
    })
    stopped_telling_as event (OfScript s) r =
        faulty_told_as (is_reader_room s.kind) event s.line s.kind r
    stopped_telling_as event NoMemory (inl r) = inl (record {
      events = r.events;
      hand = r.hand;
      number = r.number;
      text = begins_as r.text;
      wrote = r.wrote;
      network = r.network;
      asks = r.asks;
      unrefused = r.unrefused;
    })
    stopped_telling_as event NoMemory (inr r) =
        inr (record { asked = r.asked; number = r.number; none = nothing_as r.none })

    pub telling_as : (o : Result Summary RunFault)
        → TellingAnswers p t source net sink o → TellingAnswers p t source_as net_as sink o
    telling_as (Ok summary) r =
        record { events = r.events; text = r.text; ran = told_as r.ran; counted = r.counted }
    telling_as (Err q) r = stopped_telling_as q.event q.cause r
