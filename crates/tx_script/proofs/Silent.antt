-- A run that tells no more than replies and tickets answers what a run does.
use Rattle.tx_script.proofs.Common.{◌≡◌, ℕ, ◌+◌, Bool, true, false, List, [], ◌∷◌, ◌++◌, Option, Some, None, Result, Ok, Err, inl, inr, sym, ap, ap₂, refl, ◌∙◌, subst, append-nil, false≢true, flat_map, append_known, FaultKind, StopsIn, Input, Output, append_known-nil, Plan, Event, State, Moment, run, state_after, RunFault, RunCause, ScriptWord, Summary, Telling, Script, IsUntold, told_moments, told_events, told_last, ToldRan, StopsInLines, FaultyTold, StoppedTelling, TellingAnswers}
use Rattle.tx_script.specs.declared.run_cause.RunCause.TheVariants.{Read, Write, Script as OfScript, NoMemory}
use Rattle.tx_script.specs.Output.{moment_text, events_text, end_text, last_text}
use Rattle.tx_script.specs.Answers.{States, next, Ran, Stopped, FaultyBy, RunAnswers, is_reader_room}

abbrev pub nothing : Telling
nothing = record { echo = false; summary = false }

moments_silent : (p : Plan) (n : ℕ) (ms : List Moment) → told_moments p false n ms ≡ flat_map (moment_text p) ms
moments_silent p n [] = refl
moments_silent p n (m ∷ ms) = ap (λ l. moment_text p m ++ l) (moments_silent p (n + 1) ms)

module _ (p : Plan) (s : State) (es : List Event) where
  events_silent : told_events p false s es ≡ events_text p s es
  events_silent = moments_silent p 1 (run p s es)

  end_silent : told_last p nothing s es None ≡ end_text (state_after p s es)
  end_silent = append-nil (end_text (state_after p s es))

  last_silent : (fault : Option (ℕ × FaultKind ScriptWord)) → told_last p nothing s es fault ≡ last_text (state_after p s es) fault
  last_silent None = end_silent
  last_silent (Some x) = refl

module _ (p : Plan) (source : Input) (net : States) (sink : Output) where
  ran_silent : (script : Script) → ToldRan p nothing source net sink script → Ran p source net sink script
  ran_silent script told = record {
    wrote = told.wrote ∙ ap (append_known sink.old) (ap₂ (λ (a b : List ℕ). a ++ b) (events_silent p net.old script.events) (last_silent p net.old script.events script.fault));
    network = told.network;
  }

  lines_silent : (n : ℕ) (m : Moment) (t : State) (a b : Option (List ℕ)) → StopsInLines p false n m t a b → IsUntold p m t a b
  lines_silent n m t a b (inl h) = absurd (false≢true h.0)
  lines_silent n m t a b (inr h) = subst (λ z. IsUntold p m t z b) (sym (append_known-nil a)) h

  faulty_silent : (room : Bool) (event line : ℕ) (kind : FaultKind ScriptWord) → FaultyTold p nothing source net sink room event line kind → FaultyBy p source net sink room event line kind
  faulty_silent true event line kind told = told
  faulty_silent false event line kind told = record { events = told.events; number = told.number; text = told.text; ran = ran_silent _ told.ran }

  stopped_silent : (event : ℕ) (cause : RunCause) → StoppedTelling p nothing source net sink event cause → Stopped p source net sink event cause
  stopped_silent event Read told = record { events = told.events; line = told.line; number = told.number; text = told.text; failed = told.failed; ran = ran_silent _ told.ran }
  stopped_silent event Write (inl told) = inl (record {
    events = told.events;
    hand = told.hand;
    number = told.number;
    text = told.text;
    untold = subst (λ l. IsUntold p (next p net.old told.events told.hand) net.new (append_known sink.old l) sink.new) (events_silent p net.old told.events) (lines_silent event _ _ _ _ told.lines);
  })
  stopped_silent event Write (inr told) = inr (record {
    events = told.events;
    number = told.number;
    text = told.text;
    front = subst (λ l. StopsIn (append_known sink.old l) sink.new (end_text (state_after p net.old told.events))) (events_silent p net.old told.events)
        (subst (λ l. StopsIn (append_known sink.old (told_events p false net.old told.events)) sink.new l) (end_silent p net.old told.events) told.front);
    network = told.network;
  })
  stopped_silent event (OfScript f) told = faulty_silent (is_reader_room f.kind) event f.line f.kind told
  stopped_silent event NoMemory (inl told) = record {
    events = told.events;
    hand = told.hand;
    number = told.number;
    text = told.text;
    wrote = told.wrote ∙ ap (append_known sink.old) (events_silent p net.old told.events);
    network = told.network;
    asks = told.asks;
    unrefused = told.unrefused;
  }
  stopped_silent event NoMemory (inr told) = absurd (false≢true told.asked)

  pub silent_answers : (o : Result Summary RunFault) → TellingAnswers p nothing source net sink o → RunAnswers p source net sink o
  silent_answers (Ok summary) told = record { events = told.events; text = told.text; ran = ran_silent _ told.ran; counted = told.counted }
  silent_answers (Err f) told = stopped_silent f.event f.cause told
