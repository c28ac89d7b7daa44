-- A run that goes on from event to event.
use Rattle.std.proofs.Common.{◌≡◌, ℕ, ◌+◌, ◌*◌, ◌^◌, ◌<◌, ◌≤◌, Bool, true, false, cond, List, [], ◌∷◌, ◌++◌, length, Option, ◌⊎◌, Ok, Err, codes, refl, sym, ap, ◌∙◌, arith, length-append}
use Rattle.tx_script.proofs.Common.{if◌then◌else◌, option_map, count_by, sum_by, append_known, count_by-le-length, source_calls, Ending, reading_size, Framed, Headed, Has, ReadsOn, FrameStep, FrameReading, frame_start, to_come, append_known-nil, append_known_twice, Plan, IsPlan, Event, State, Moment, moment, run, state_after, is_refused, drained, Answered, RunFault, RunCause, ScriptWord, Tally, tickets_made, told_moment, told_events, Counted, AreFew, AreNew, counted_on, counted_over}
use Rattle.tx_text.specs.declared.frame.FaultAt.{FaultAt}
use Rattle.tx_text.specs.declared.frame.FrameStep.TheVariants.{Header, Line as LineStep, End}
use Rattle.tx_text.proofs.CallCounts.{went_past}
use Rattle.tx_script.specs.declared.run_cause.RunCause.TheVariants.{Read, Script as OfScript}
use Rattle.tx_script.specs.Events.{Said, event_of}
use Rattle.tx_script.specs.inner.LineAnswers.{count_of, IsTold, LineTold}
use Rattle.tx_script.specs.Answers.{IsFresh, settled_state, next, mark_by}
use Rattle.tx_script.proofs.Scripts.{SaidSoFar, at_start, header_said, event_said}
use Rattle.tx_script.proofs.Moments.{run_push, one_more, few_tickets, length_run, reply_same, made_same, after_same}
use Rattle.tx_script.proofs.Told.{told_more, told_same}
use Rattle.tx_script.proofs.Counting.{over_push, map_twice, map_none, few_counts}

-- Some events were read, answered and counted: a and b are what the source had to give before and has now, u and v what the sink had taken, s and t
-- the network, first and now what was counted for the summary, T is what is to come, and size bounds it.
pub record IsRunning (p : Plan) (echo : Bool) (first now : Option Counted) (a b : Option (List ℕ)) (s t : State) (u v : Option (List ℕ)) (T : Ending → List ℕ → Framed) (tally : Tally) (size : ℕ) : Type 0 where
  pub events : List Event
  pub said : SaidSoFar p a b events T
  pub wrote : v ≡ append_known u (told_events p echo s events)
  pub network : t ≡ settled_state p s events
  pub answered : tally.answered ≡ length events
  pub refused : tally.refused ≡ count_by (λ m. is_refused m.reply) (run p s events)
  pub tickets : tally.tickets ≡ sum_by (λ m. length (tickets_made m)) (run p s events)
  pub counts : now ≡ option_map (counted_over p (run p s events)) first
  pub bounded : tally.answered + size ≤ 4097 * source_calls

-- a header or a line is not the end
pub past_header : {W : Type 0} (step : FrameStep) (n : ℕ) → step ≡ Header n → (step ≡ End) ⊎ W → W
past_header step n is w = went_past w (λ e. let bad : Header n ≡ End = sym is ∙ e in let worse : ⊥ = cc in worse)

pub past_line : {W : Type 0} (step : FrameStep) → step ≡ LineStep → (step ≡ End) ⊎ W → W
past_line step is w = went_past w (λ e. let bad : LineStep ≡ End = sym is ∙ e in let worse : ⊥ = cc in worse)

-- nothing was read yet
pub start_runs : (p : Plan) (echo : Bool) (counts : Option Counted) (a : Option (List ℕ)) (s : State) (u : Option (List ℕ)) (v : FrameReading) (tally : Tally) → v ≡ frame_start (codes "SCRIPT") 1 source_calls
    → IsFresh s → tally ≡ record { answered = 0; refused = 0; tickets = 0 } → IsRunning p echo counts counts a a s s u u (to_come v) tally (reading_size v.reader)
start_runs p echo counts a s u v tally start fresh i = record {
  events = [];
  said = at_start p a v start;
  wrote = append_known-nil u;
  network = ap (drained s) fresh.no_tickets;
  answered = ap (λ (z : Tally). z.answered) i;
  refused = ap (λ (z : Tally). z.refused) i;
  tickets = ap (λ (z : Tally). z.tickets) i;
  counts = map_none (counted_over p []) (λ c. refl) counts;
  bounded = (let n = ap (λ (z : Tally). z.answered) i in let m = ap (λ (z : FrameReading). reading_size z.reader) start in omega arith);
}

module _ (p : Plan) (echo : Bool) (first now : Option Counted) (a b : Option (List ℕ)) (s t : State) (u v : Option (List ℕ)) (T : Ending → List ℕ → Framed) (tally : Tally) (size : ℕ) (on : IsRunning p echo first now a b s t u v T tally size) where
  abbrev es : List Event
  es = on.events

  -- no count wraps
  pub few_answered : tally.answered < 2 ^ 63
  few_answered = let h = on.bounded in omega arith

  pub few_refused : tally.refused ≤ tally.answered
  few_refused =
      let l = count_by-le-length (λ (m : Moment). is_refused m.reply) (run p s es) in
      let n = length_run p s es in
      omega (arith, on.refused, on.answered)

  pub few_calls : IsFresh s → length t.calls < 2 ^ 63
  few_calls fresh =
      let few = few_tickets p s es in
      let c = ap (λ (r : State). length r.calls) on.network in
      let z = ap length fresh.no_calls in
      omega (arith, on.answered, on.bounded)

  few_made : IsFresh s → (e : Event) (count : Answered) → count ≡ count_of (moment p t e) → tally.tickets + count.tickets < 2 ^ 64
  few_made fresh e count k =
      let few = few_tickets p s (es ++ e ∷ []) in
      let m = (one_more p s es e).tickets in
      let q : count.tickets ≡ length (tickets_made (next p s es e)) = ap (λ (z : Answered). z.tickets) k ∙ ap (λ (r : State). length (tickets_made (moment p r e))) on.network ∙ ap length (made_same p (state_after p s es) e) in
      let z = ap length fresh.no_calls in
      let l = length-append es (e ∷ []) in
      omega (arith, on.answered, on.tickets, on.bounded)

  -- a line was answered: there is room to count its tickets
  pub few_told : IsFresh s → (n k : ℕ) (said : Said) (r : State) (w : Option (List ℕ)) (count : Answered) → LineTold p echo n k said t r v w (Ok count) → tally.tickets + count.tickets < 2 ^ 64
  few_told fresh n k (Ok e) r w count h = few_made fresh e count h.counted
  few_told fresh n k (Err word) r w count h = absurd h

  few_events : length es < 2 ^ 63
  few_events = let h = few_answered in omega (arith, on.answered)

  pub few_counted : IsPlan p → IsFresh s → AreNew p s first → AreFew now
  few_counted ok fresh new = few_counts p ok s fresh es first now new on.counts few_events

  -- its tickets were taken
  pub none_left : t.tickets ≡ []
  none_left = ap (λ (r : State). r.tickets) on.network

  -- the header came
  pub header_runs : (c : Option (List ℕ)) (w : ℕ) (U : Ending → List ℕ → Framed) (left : ℕ) → ReadsOn b c T (λ e more. Headed w (U e more)) → left < size → IsRunning p echo first now a c s t u v U tally left
  header_runs c w U left q l = record {
    events = es;
    said = header_said p a b c es T on.said w U q;
    wrote = on.wrote;
    network = on.network;
    answered = on.answered;
    refused = on.refused;
    tickets = on.tickets;
    counts = on.counts;
    bounded = (let h = on.bounded in omega arith);
  }

  -- an event came, and was told
  module _ (e : Event) where
    abbrev last : Moment
    last = next p s es e

    here : moment p t e ≡ moment p (settled_state p s es) e
    here = ap (λ (z : State). moment p z e) on.network

    same_reply : (moment p t e).reply ≡ last.reply
    same_reply = ap (λ (z : Moment). z.reply) here ∙ reply_same p (state_after p s es) e

    same_made : tickets_made (moment p t e) ≡ tickets_made last
    same_made = ap (λ (z : Moment). tickets_made z) here ∙ made_same p (state_after p s es) e

    same_counts : (c : Counted) → counted_on p (moment p t e) (counted_over p (run p s es) c) ≡ counted_over p (run p s (es ++ e ∷ [])) c
    same_counts c =
        let d = counted_over p (run p s es) c in
        let same : counted_on p (moment p t e) d ≡ counted_on p last d = cc (same_reply, same_made) in
        same ∙ sym (ap (λ ms. counted_over p ms c) (run_push p s es e) ∙ over_push p (run p s es) last c)

    counts_after : (more : Option Counted) → more ≡ option_map (counted_on p (moment p t e)) now → more ≡ option_map (counted_over p (run p s (es ++ e ∷ []))) first
    counts_after more is = is ∙ ap (option_map (counted_on p (moment p t e))) on.counts ∙ map_twice (counted_on p (moment p t e)) (counted_over p (run p s es)) (counted_over p (run p s (es ++ e ∷ []))) same_counts first

  pub event_runs : (c : Option (List ℕ)) (r : State) (w : Option (List ℕ)) (n : ℕ) (ws : List (List ℕ)) (U : Ending → List ℕ → Framed) (e : Event) (k : ℕ) (new : Tally) (count : Answered) (more : Option Counted) (left : ℕ) → ReadsOn b c T (λ e more. Has n ws (U e more)) → event_of p ws ≡ Ok e
      → k ≡ tally.answered + 1 → IsTold p echo k e t r v w count → more ≡ option_map (counted_on p (moment p t e)) now → new ≡ record { answered = tally.answered + 1; refused = tally.refused + cond count.refused 1 0; tickets = tally.tickets + count.tickets } → left < size
      → IsRunning p echo first more a c s r u w U new left
  event_runs c r w n ws U e k new count more left q h number told adds i l =
      let one = one_more p s es e in
      let text : told_moment p echo k (moment p t e) ≡ told_moment p echo (length es + 1) (last e) =
      ap (λ (z : State). told_moment p echo k (moment p z e)) on.network ∙ told_same p echo k (state_after p s es) e
      ∙ ap (λ z. told_moment p echo z (last e)) (number ∙ ap (λ z. z + 1) on.answered) in
      let bad : count.refused ≡ is_refused (last e).reply = ap (λ (z : Answered). z.refused) told.counted ∙ ap is_refused (same_reply e) in
      let made : count.tickets ≡ length (tickets_made (last e)) = ap (λ (z : Answered). z.tickets) told.counted ∙ ap length (same_made e) in
      record {
        events = es ++ e ∷ [];
        said = event_said p a b c es T on.said n ws U e q h;
        wrote = told.wrote ∙ ap (λ z. append_known z (told_moment p echo k (moment p t e))) on.wrote ∙ append_known_twice u (told_events p echo s es) (told_moment p echo k (moment p t e))
            ∙ ap (λ z. append_known u (told_events p echo s es ++ z)) text ∙ ap (append_known u) (sym (told_more p echo s es e));
        network = told.network ∙ ap (λ (z : Moment). drained z.after []) (here e) ∙ after_same p (state_after p s es) e [] ∙ sym one.network;
        answered = ap (λ (z : Tally). z.answered) i ∙ ap (λ n. n + 1) on.answered ∙ sym (length-append es (e ∷ []));
        refused = ap (λ (z : Tally). z.refused) i ∙ ap (λ n. n + cond count.refused 1 0) on.refused ∙ ap (λ b. count_by (λ m. is_refused m.reply) (run p s es) + cond b 1 0) bad ∙ sym one.refused;
        tickets = ap (λ (z : Tally). z.tickets) i ∙ ap (λ n. n + count.tickets) on.tickets ∙ ap (λ n. sum_by (λ m. length (tickets_made m)) (run p s es) + n) made ∙ sym one.tickets;
        counts = counts_after e more adds;
        bounded = (let h = on.bounded in let j = ap (λ (z : Tally). z.answered) i in omega arith);
      }

-- ---- the sink's mark

module _ (first old : Bool) (same : old ≡ first) (n : ℕ) (cause : RunCause) (f : RunFault) (told : f ≡ record { event = n; cause = cause }) where
  -- a line was not answered whole
  pub line_mark : (new : Bool) → new ≡ mark_by old cause → new ≡ mark_by first f.cause
  line_mark new m = m ∙ ap (λ b. mark_by b cause) same ∙ ap (λ (z : RunFault). mark_by first z.cause) (sym told)

  unmarked : (b : Bool) (k : FaultAt ScriptWord) → mark_by first (if b then Read else OfScript k) ≡ first
  unmarked true k = refl
  unmarked false k = refl

  -- the frame is faulty, or the source failed
  pub stop_mark : (b : Bool) (k : FaultAt ScriptWord) → cause ≡ (if b then Read else OfScript k) → old ≡ mark_by first f.cause
  stop_mark b k by = same ∙ sym (ap (λ (z : RunFault). mark_by first z.cause) told ∙ ap (mark_by first) by ∙ unmarked b k)
