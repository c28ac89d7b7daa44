-- The ways in which a run ends, and a step of its frame.
use Rattle.std.proofs.Common.{◌≡◌, ℕ, ◌+◌, ◌<◌, Bool, true, cond, List, [], ◌∷◌, ◌++◌, length, Option, None, ◌⊎◌, Result, Ok, Err, IfOk, IfErr, OnOk, OnErr, inl, inr, refl, sym, ap, ◌∙◌, subst, append-nil}
use Rattle.tx_script.proofs.Common.{if◌then◌else◌, option_map, flat_map, count_by, FrameFault, FaultKind, Frame, Word, StopsIn, Input, Output, Ending, AtEnd, Framed, Done, Stop, Has, ReadsOn, EndsAs, Stopped, is_read, FrameStep, append_known_twice, Plan, IsPlan, Event, State, refusal, moment, run, state_after, is_refused, drained, reply_text, ticket_text, Answered, RunFault, RunCause, ScriptWord, Summary, Tally, Telling, end_text, IsUntold, IsFresh, States, settled_state, next, Begins, echo_asked, told_events, told_last, StopsInLines, ToldRan, StoppedTelling, TellingAnswers, Counted, AreNew, asked_of, counted_on, last_lines}
use Rattle.std.specs.Io.KnownBytes.{append_known, IsAtEnd}
use Rattle.tx_text.specs.declared.frame.FrameFault.TheVariants.{LineTooLong, BadByte, NoMemory as TextNoMemory, Read as line_read, NoHeader, NoEnd, AfterEnd}
use Rattle.tx_text.specs.Text.{Line}
use Rattle.tx_text.specs.declared.frame.FrameStep.TheVariants.{Header, Line as LineStep, End}
use Rattle.tx_text.specs.inner.Framing.{number_of_line, words_of_line, GoesOn}
use Rattle.tx_text.specs.Said.{is_no_room}
use Rattle.tx_text.proofs.NoRoom.{IsSaid, none_stops}
use Rattle.tx_script.specs.declared.run_cause.RunCause.TheVariants.{Read, Write, Script as OfScript, NoMemory}
use Rattle.tx_script.specs.Events.{Said, event_of}
use Rattle.tx_script.specs.Script.{faulty, script_said, script_of}
use Rattle.tx_script.specs.inner.LineAnswers.{Untold, LineTold}
use Rattle.tx_script.proofs.Scripts.{event_said, fault_said, whole_said, stop_said}
use Rattle.tx_script.proofs.Moments.{reply_same, made_same, after_same}
use Rattle.tx_script.proofs.Counting.{last_told}
use Rattle.tx_script.proofs.Running.{IsRunning, past_header, past_line, header_runs, event_runs}

-- the tickets that were taken before are no matter to what a failed write leaves
module _ (p : Plan) (s : State) (es : List Event) (e : Event) where
  untold_same : (t : State) (a b : Option (List ℕ)) → IsUntold p (moment p (settled_state p s es) e) t a b → IsUntold p (next p s es e) t a b
  untold_same t a b (inl h) =
      let q = state_after p s es in
      inl (record {
        front = subst (λ z. StopsIn a b (reply_text p z)) (reply_same p q e) h.front;
        network = h.network ∙ after_same p q e _ ∙ ap (drained (next p s es e).after) (made_same p q e);
      })
  untold_same t a b (inr h) =
      let q = state_after p s es in
      inr (record {
        written = h.written;
        hand = h.hand;
        left = h.left;
        whole = sym (made_same p q e) ∙ h.whole;
        front = subst (λ z. StopsIn (append_known (append_known a (reply_text p z)) (flat_map (ticket_text p) h.written)) b (ticket_text p h.hand)) (reply_same p q e) h.front;
        network = h.network ∙ after_same p q e h.left;
      })

  lines_same : (echo : Bool) (n : ℕ) (t : State) (a b : Option (List ℕ)) → StopsInLines p echo n (moment p (settled_state p s es) e) t a b → StopsInLines p echo n (next p s es e) t a b
  lines_same echo n t a b (inl h) =
      let q = state_after p s es in
      inl (h.0, record { front = h.1.front; network = h.1.network ∙ after_same p q e _ ∙ ap (drained (next p s es e).after) (made_same p q e) })
  lines_same echo n t a b (inr h) = inr (untold_same t (append_known a (echo_asked echo p n e)) b h)

module _ (p : Plan) (echo : Bool) (first now : Option Counted) (a b : Option (List ℕ)) (s t : State) (u v : Option (List ℕ)) (T : Ending → List ℕ → Framed) (tally : Tally) (size : ℕ) (on : IsRunning p echo first now a b s t u v T tally size) where
  abbrev es : List Event
  es = on.events

  abbrev tel : Telling
  tel = asked_of echo first

  number : tally.answered + 1 ≡ length es + 1
  number = ap (λ n. n + 1) on.answered

  -- what the source, the network and the sink came to
  module _ (c : Option (List ℕ)) (r : State) (w : Option (List ℕ)) (broken unread unchanged silent : Type 0) where
    abbrev source : Input
    source = record { old = a; new = c; broken = broken; unread = unread }

    abbrev net : States
    net = record { old = s; new = r; unchanged = unchanged }

    abbrev sink : Output
    sink = record { old = u; new = w; silent = silent }

    -- nothing was done after the events
    module _ (kept : r ≡ t) (unwritten : w ≡ v) (f : RunFault) where
      ran : (n : ℕ) (k : FaultKind ScriptWord) → ToldRan p tel source net sink (faulty es n k)
      ran n k = record { wrote = unwritten ∙ on.wrote ∙ ap (append_known u) (sym (append-nil (told_events p echo s es))); network = kept ∙ on.network }

      -- a line says no event
      word_ends : (n : ℕ) (ws : List (List ℕ)) (U : Ending → List ℕ → Framed) (k : ScriptWord) → ReadsOn b c T (λ e more. Has n ws (U e more)) → event_of p ws ≡ Err k
          → f ≡ record { event = tally.answered + 1; cause = OfScript (record { line = n; kind = Word k }) } → StoppedTelling p tel source net sink f.event f.cause
      word_ends n ws U k q h i =
          subst (λ (z : RunFault). StoppedTelling p tel source net sink z.event z.cause) (sym i)
          (record { events = es; number = number; text = inl (fault_said p a b c es T on.said n ws U k q h); ran = ran n (Word k) })

      -- the frame is faulty, or the source failed
      stop_by : (n : ℕ) (k : FrameFault) → (is_no_room k ≡ true → ⊥) → Stopped a c (script_of p) broken (is_read k) (faulty es n (Frame k))
          → StoppedTelling p tel source net sink (tally.answered + 1) (if is_read k then Read else OfScript (record { line = n; kind = Frame k }))
      stop_by n line_read none q = record { events = es; line = n; number = number; text = q.0; failed = q.1; ran = ran n (Frame line_read) }
      stop_by n LineTooLong none q = record { events = es; number = number; text = q; ran = ran n (Frame LineTooLong) }
      stop_by n BadByte none q = record { events = es; number = number; text = q; ran = ran n (Frame BadByte) }
      stop_by n TextNoMemory none q = absurd (none refl)
      stop_by n NoHeader none q = record { events = es; number = number; text = q; ran = ran n (Frame NoHeader) }
      stop_by n NoEnd none q = record { events = es; number = number; text = q; ran = ran n (Frame NoEnd) }
      stop_by n AfterEnd none q = record { events = es; number = number; text = q; ran = ran n (Frame AfterEnd) }

      pub stop_ends : (n : ℕ) (k : FrameFault) → ((e : Ending) (more : List ℕ) → IsSaid (T e more)) → Stopped b c T broken (is_read k) (Stop n k)
          → f ≡ record { event = tally.answered + 1; cause = if is_read k then Read else OfScript (record { line = n; kind = Frame k }) } → StoppedTelling p tel source net sink f.event f.cause
      stop_ends n k said q i =
          subst (λ (z : RunFault). StoppedTelling p tel source net sink z.event z.cause) (sym i) (stop_by n k (none_stops b c T n k broken (is_read k) said q) (stop_said p a b c es T on.said n k broken q))

    -- an event was not told whole
    untold_by : (e : Event) (k : ℕ) → Begins p source (es ++ e ∷ []) → k ≡ length es + 1 → (cause : RunCause) → Untold p echo k e (settled_state p s es) r (append_known u (told_events p echo s es)) w cause → StoppedTelling p tel source net sink k cause
    untold_by e k text is Read h = absurd h
    untold_by e k text is Write h = inl (record { events = es; hand = e; number = is; text = text; lines = lines_same p s es e echo k r (append_known u (told_events p echo s es)) w h })
    untold_by e k text is (OfScript f) h = absurd h
    untold_by e k text is NoMemory h = inl (record { events = es; hand = e; number = is; text = text; wrote = h.written; network = h.network; asks = h.asks; unrefused = ap (λ (z : State). refusal p z e) h.network ∙ h.unrefused })

    untold_ends : (f : RunFault) (n : ℕ) (ws : List (List ℕ)) (U : Ending → List ℕ → Framed) (e : Event) (k : ℕ) (cause : RunCause) → ReadsOn b c T (λ e more. Has n ws (U e more)) → event_of p ws ≡ Ok e
        → k ≡ tally.answered + 1 → Untold p echo k e t r v w cause → f ≡ record { event = tally.answered + 1; cause = cause } → StoppedTelling p tel source net sink f.event f.cause
    untold_ends f n ws U e k cause q h counted untold i =
        let text : Begins p source (es ++ e ∷ []) = record { to_come = λ e more. script_said p (U e more); reads = event_said p a b c es T on.said n ws U e q h } in
        let here = subst (λ (z : Option (List ℕ)). Untold p echo k e (settled_state p s es) r z w cause) on.wrote (subst (λ (z : State). Untold p echo k e z r v w cause) on.network untold) in
        subst (λ (z : RunFault). StoppedTelling p tel source net sink z.event z.cause) (ap (λ n. record { event = n; cause = cause }) counted ∙ sym i) (untold_by e k text (counted ∙ number) cause here)

    -- the text is whole
    module _ (ok : IsPlan p) (fresh : IsFresh s) (new : AreNew p s first) (kept : r ≡ t) where
      same_end : last_lines p now t ≡ told_last p tel s es None
      same_end = last_told p ok s fresh es echo first now t new on.counts (ap end_text on.network) (ap (λ (z : State). length z.calls) on.network)

      pub whole_ends : (o : Result Summary RunFault) → EndsAs b c T AtEnd Done × IsAtEnd c
          → IfOk o (λ z. z ≡ record { events = t.events; refused = tally.refused; tickets = tally.tickets; open_calls = length t.calls }) → OnOk o (w ≡ append_known v (last_lines p now t))
          → IfErr o (λ f. f ≡ record { event = tally.answered + 1; cause = Write }) → OnErr o (StopsIn v w (last_lines p now t)) → TellingAnswers p tel source net sink o
      whole_ends (Ok z) q counted wrote fault stop = record {
        events = es;
        text = (whole_said p a b c es T on.said q.0, q.1);
        ran = record { wrote = wrote ∙ ap (λ l. append_known v l) same_end ∙ ap (λ l. append_known l (told_last p tel s es None)) on.wrote ∙ append_known_twice u (told_events p echo s es) (told_last p tel s es None); network = kept ∙ on.network };
        counted = counted ∙ ap (λ (n : State). record { events = n.events; refused = tally.refused; tickets = tally.tickets; open_calls = length n.calls }) on.network
            ∙ ap (λ n. record { events = (state_after p s es).events; refused = n; tickets = tally.tickets; open_calls = length (state_after p s es).calls }) on.refused
            ∙ ap (λ n. record { events = (state_after p s es).events; refused = count_by (λ m. is_refused m.reply) (run p s es); tickets = n; open_calls = length (state_after p s es).calls }) on.tickets;
      }
      whole_ends (Err f) q counted wrote fault stop =
          subst (λ (z : RunFault). TellingAnswers p tel source net sink (Err z)) (sym fault)
          (inr (record {
            events = es;
            number = number;
            text = (whole_said p a b c es T on.said q.0, q.1);
            front = subst (λ l. StopsIn (append_known u (told_events p echo s es)) w l) same_end (subst (λ z. StopsIn z w (last_lines p now t)) on.wrote stop);
            network = kept ∙ on.network;
          }))

  -- ---- a step of the frame

  module _ (c : Option (List ℕ)) (step : FrameStep) (U : Ending → List ℕ → Framed) (l : Option Line) (gives : GoesOn b c T U l ⊥ (Ok step)) where
    pub header_came : (n left : ℕ) → step ≡ Header n → (step ≡ End) ⊎ (left < size) → IsRunning p echo first now a c s t u v U tally left
    header_came n left is falls = header_runs p echo first now a b s t u v T tally size on c n U left (subst (λ (x : FrameStep). GoesOn b c T U l ⊥ (Ok x)) is gives) (past_header step n is falls)

    pub end_came : step ≡ End → EndsAs b c T AtEnd Done × IsAtEnd c
    end_came is = subst (λ (x : FrameStep). GoesOn b c T U l ⊥ (Ok x)) is gives

    module _ (is : step ≡ LineStep) (n : ℕ) (number : n ≡ number_of_line l) (k : ℕ) (next : k ≡ tally.answered + 1) (r : State) (w : Option (List ℕ)) (said : Said) (says : event_of p (words_of_line l) ≡ said) where
      has : ReadsOn b c T (λ e more. Has (number_of_line l) (words_of_line l) (U e more))
      has = subst (λ (x : FrameStep). GoesOn b c T U l ⊥ (Ok x)) is gives

      line_by : (new : Tally) (count : Answered) (more : Option Counted) (left : ℕ) → left < size → (x : Said) → event_of p (words_of_line l) ≡ x → LineTold p echo n k x t r v w (Ok count) → IfOk x (λ e. more ≡ option_map (counted_on p (moment p t e)) now)
          → new ≡ record { answered = tally.answered + 1; refused = tally.refused + cond count.refused 1 0; tickets = tally.tickets + count.tickets } → IsRunning p echo first more a c s r u w U new left
      line_by new count more left falls (Ok e) says told adds i = event_runs p echo first now a b s t u v T tally size on c r w (number_of_line l) (words_of_line l) U e k new count more left has says next told adds i falls
      line_by new count more left falls (Err word) says told adds i = absurd told

      -- a line was answered
      pub line_came : (new : Tally) (count : Answered) (more : Option Counted) (left : ℕ) → (step ≡ End) ⊎ (left < size) → LineTold p echo n k said t r v w (Ok count) → IfOk said (λ e. more ≡ option_map (counted_on p (moment p t e)) now)
          → new ≡ record { answered = tally.answered + 1; refused = tally.refused + cond count.refused 1 0; tickets = tally.tickets + count.tickets } → IsRunning p echo first more a c s r u w U new left
      line_came new count more left falls told adds i = line_by new count more left (past_line step is falls) said says told adds i

      module _ (broken unread unchanged silent : Type 0) where
        abbrev Halted : RunFault → Type 0
        Halted f = StoppedTelling p tel (source c r w broken unread unchanged silent) (net c r w broken unread unchanged silent) (sink c r w broken unread unchanged silent) f.event f.cause

        halted_by : (f : RunFault) (cause : RunCause) (x : Said) → event_of p (words_of_line l) ≡ x → LineTold p echo n k x t r v w (Err cause) → f ≡ record { event = tally.answered + 1; cause = cause } → Halted f
        halted_by f cause (Ok e) says untold i = untold_ends c r w broken unread unchanged silent f (number_of_line l) (words_of_line l) U e k cause has says next untold i
        halted_by f cause (Err word) says none i =
            word_ends c r w broken unread unchanged silent none.network none.written f (number_of_line l) (words_of_line l) U word has says
            (i ∙ ap (λ z. record { event = tally.answered + 1; cause = z }) (none.fault ∙ ap (λ z. OfScript (record { line = z; kind = Word word })) number))

        -- a line was not answered whole
        pub line_halted : (f : RunFault) (cause : RunCause) → LineTold p echo n k said t r v w (Err cause) → f ≡ record { event = tally.answered + 1; cause = cause } → Halted f
        line_halted f cause untold i = halted_by f cause said says untold i
