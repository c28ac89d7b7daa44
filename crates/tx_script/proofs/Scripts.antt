-- What was read so far, as the first events of a script.
use Rattle.tx_script.proofs.Common.{◌≡◌, ℕ, List, [], ◌∷◌, ◌++◌, Option, Ok, Err, codes, refl, sym, ap, ◌∙◌, append_assoc, append-nil, subst, FrameFault, FaultKind, Frame, Word, source_calls, Ending, AtEnd, Framed, Done, Stop, Headed, Has, ReadsOn, EndsAs, Stopped, is_read, FrameReading, frame_start, to_come, Plan, Event, ScriptWord}
use Rattle.tx_text.specs.inner.Reading.{told_at}
use Rattle.tx_text.proofs.ReadingOn.{moves-nil}
use Rattle.tx_text.proofs.Framing.{on_then, end_then, map_on, map_end, stopped_map}
use Rattle.tx_script.specs.Events.{event_of}
use Rattle.tx_script.specs.Script.{Script, whole, faulty, after_events, line_said, script_said, script_of}

-- what a text says
abbrev Says : Type 0
Says = Ending → List ℕ → Script

-- these events were read, and then comes what the frame has yet
abbrev pub SaidSoFar : Plan → Option (List ℕ) → Option (List ℕ) → List Event → (Ending → List ℕ → Framed) → Type 0
SaidSoFar p a b es T = ReadsOn a b (script_of p) (λ e more. after_events es (script_said p (T e more)))

after_whole : (es : List Event) → after_events es (whole []) ≡ whole es
after_whole es = ap (λ (l : List Event). whole l) (append-nil es)

after_fault : (es : List Event) (n : ℕ) (k : FaultKind ScriptWord) → after_events es (faulty [] n k) ≡ faulty es n k
after_fault es n k = ap (λ (l : List Event). faulty l n k) (append-nil es)

after_one : (es : List Event) (e : Event) (s : Script) → after_events es (after_events (e ∷ []) s) ≡ after_events (es ++ e ∷ []) s
after_one es e s = ap (λ (l : List Event). record { events = l; fault = s.fault }) (sym (append_assoc es (e ∷ []) s.events))

module _ (p : Plan) where
  -- nothing was read yet
  pub at_start : (a : Option (List ℕ)) (v : FrameReading) → v ≡ frame_start (codes "SCRIPT") 1 source_calls → SaidSoFar p a a [] (to_come v)
  unfolding told_at
  at_start a v h = record { read = []; moves = moves-nil a; gives = λ d more. rw h refl }

  module _ (a b c : Option (List ℕ)) (es : List Event) (T : Ending → List ℕ → Framed) (said : SaidSoFar p a b es T) where
    -- the header came
    pub header_said : (v : ℕ) (U : Ending → List ℕ → Framed) → ReadsOn b c T (λ e more. Headed v (U e more)) → SaidSoFar p a c es U
    unfolding script_said
    header_said v U q = on_then said (map_on (λ t. after_events es (script_said p t)) q)

    line_on : (n : ℕ) (ws : List (List ℕ)) (U : Ending → List ℕ → Framed) → ReadsOn b c T (λ e more. Has n ws (U e more)) → ReadsOn a c (script_of p) (λ e more. after_events es (line_said n (event_of p ws) (script_said p (U e more))))
    unfolding script_said
    line_on n ws U q = on_then said (map_on (λ t. after_events es (script_said p t)) q)

    -- an event came
    pub event_said : (n : ℕ) (ws : List (List ℕ)) (U : Ending → List ℕ → Framed) (event : Event) → ReadsOn b c T (λ e more. Has n ws (U e more)) → event_of p ws ≡ Ok event → SaidSoFar p a c (es ++ event ∷ []) U
    event_said n ws U event q h =
        let l = line_on n ws U q in
        record {
          read = l.read;
          moves = l.moves;
          gives = λ e more. l.gives e more ∙ ap (λ r. after_events es (line_said n r (script_said p (U e more)))) h ∙ after_one es event (script_said p (U e more));
        }

    -- a line without an event came
    pub fault_said : (n : ℕ) (ws : List (List ℕ)) (U : Ending → List ℕ → Framed) (k : ScriptWord) → ReadsOn b c T (λ e more. Has n ws (U e more)) → event_of p ws ≡ Err k → ReadsOn a c (script_of p) (λ _ _. faulty es n (Word k))
    fault_said n ws U k q h =
        let l = line_on n ws U q in
        record {
          read = l.read;
          moves = l.moves;
          gives = λ e more. l.gives e more ∙ ap (λ r. after_events es (line_said n r (script_said p (U e more)))) h ∙ after_fault es n (Word k);
        }

    -- the text is whole
    pub whole_said : EndsAs b c T AtEnd Done → EndsAs a c (script_of p) AtEnd (whole es)
    unfolding script_said
    whole_said q = let l = end_then said (map_end (λ t. after_events es (script_said p t)) q) in record { read = l.read; moves = l.moves; gives = l.gives ∙ after_whole es }

    -- the frame is faulty
    pub stop_said : (n : ℕ) (k : FrameFault) (broken : Type 0) → Stopped b c T broken (is_read k) (Stop n k) → Stopped a c (script_of p) broken (is_read k) (faulty es n (Frame k))
    unfolding script_said
    stop_said n k broken q = subst (Stopped a c (script_of p) broken (is_read k)) (after_fault es n (Frame k)) (stopped_map a b c (script_of p) T (Stop n k) (λ t. after_events es (script_said p t)) broken (is_read k) said q)
