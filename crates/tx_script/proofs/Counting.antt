-- What was counted over a run tells its summary.
use Rattle.tx_script.proofs.Common.{◌≡◌, ℕ, ◌^◌, ◌<◌, codes, List, [], ◌∷◌, ◌++◌, length, get_or, Option, Some, None, Bool, true, false, refl, sym, ap, ap₂, ◌∙◌, subst, arith, append_assoc, append-nil, option_map, flat_map, range_with_len, Plan, IsPlan, cause_text, Event, Reply, Ended, State, step, Moment, moment, run, state_after, IsFresh, tickets_made, end_text, ALL, peak, Telling, told_last, NoneReleasing}
use Rattle.std.specs.FinSet as set
use Rattle.std.proofs.lemmas.List.Concat.{length-flat_map}
use Rattle.tx_machine.specs.inner.Invariant.{Inv, Holds}
use Rattle.tx_machine.proofs.Invariant.{inv_opening}
use Rattle.tx_machine.proofs.Steps.{step_keeps}
use Rattle.tx_script.specs.Summaries.{calls_line, ended_by, peak_line, summary_text}
use Rattle.tx_script.specs.inner.Counting.{Counted, AreFew, AreNew, asked_of, counts_for, counted_on, counted_over, ends_counted, uses_counted, nothing_counted, counts_text, last_lines, use_at}
use Rattle.tx_script.proofs.Ended.{AreEnded, none_ended, ended_all, ended_within, ended_told}
use Rattle.tx_script.proofs.GroupUses.{AreGroupUses, none_used, uses_step, peaks_told}
use Rattle.tx_script.proofs.Moments.{few_tickets}
use Rattle.tx_script.proofs.TakenSteps.{taken_step}

-- ---- one moment more

pub over_push : (p : Plan) (ms : List Moment) (m : Moment) (c : Counted) → counted_over p (ms ++ m ∷ []) c ≡ counted_on p m (counted_over p ms c)
over_push p [] m c = refl
over_push p (x ∷ ms) m c = over_push p ms m (counted_on p x c)

pub map_twice : (f h k : Counted → Counted) → ((c : Counted) → f (h c) ≡ k c) → (counts : Option Counted) → option_map f (option_map h counts) ≡ option_map k counts
map_twice f h k same None = refl
map_twice f h k same (Some c) = ap Some (same c)

pub map_none : (f : Counted → Counted) → ((c : Counted) → c ≡ f c) → (counts : Option Counted) → counts ≡ option_map f counts
map_none f same None = refl
map_none f same (Some c) = ap Some (same c)

-- what the reply does to the counts, and then the tickets
pub counted_twice : (p : Plan) (m : Moment) (reply : Reply) (tickets : List Ended) → m.reply ≡ reply → tickets_made m ≡ tickets → (counts : Option Counted)
    → option_map (ends_counted tickets) (option_map (uses_counted p m.event reply) counts) ≡ option_map (counted_on p m) counts
counted_twice p m reply tickets replied made None = refl
counted_twice p m reply tickets replied made (Some c) = rw (sym replied, sym made) refl

-- the reply leaves room for the calls
pub few_used : (p : Plan) (e : Event) (reply : Reply) (old : Option Counted) → AreFew old → (new : Option Counted) → new ≡ option_map (uses_counted p e reply) old → AreFew new
few_used p e reply None few new is = subst AreFew (sym is) tt
few_used p e reply (Some c) few new is = subst AreFew (sym is) few

-- ---- calls that ended

ended_over : (p : Plan) (ms : List Moment) (ts : List Ended) (c : Counted) → AreEnded ts c.calls → AreEnded (ts ++ flat_map tickets_made ms) (counted_over p ms c).calls
ended_over p [] ts c are = subst (λ l. AreEnded l c.calls) (sym (append-nil ts)) are
ended_over p (m ∷ ms) ts c are =
    subst (λ l. AreEnded l (counted_over p (m ∷ ms) c).calls) (append_assoc ts (tickets_made m) (flat_map tickets_made ms))
    (ended_over p ms (ts ++ tickets_made m) (counted_on p m c) (ended_all ts (tickets_made m) c.calls are))

ended_from_none : (p : Plan) (ms : List Moment) → AreEnded (flat_map tickets_made ms) (counted_over p ms (nothing_counted p)).calls
ended_from_none p ms = ended_over p ms [] (nothing_counted p) (none_ended (nothing_counted p).calls refl)

-- no count wraps
few_over : (p : Plan) (s : State) (es : List Event) → IsFresh s → length es < 2 ^ 63 → (k : ℕ) → get_or (counted_over p (run p s es) (nothing_counted p)).calls k 0 < 2 ^ 63
few_over p s es fresh l k =
    let ms = run p s es in
    let w = ended_within (flat_map tickets_made ms) (counted_over p ms (nothing_counted p)).calls (ended_from_none p ms) k in
    let n = length-flat_map tickets_made ms in
    let few = few_tickets p s es in
    let z = ap length fresh.no_calls in
    omega arith

-- ---- groups

module _ (p : Plan) (ok : IsPlan p) where
  uses_over : (done : List Moment) (s : State) → Holds p s → (es : List Event) (c : Counted) → AreGroupUses p done s c.groups → AreGroupUses p (done ++ run p s es) (state_after p s es) (counted_over p (run p s es) c).groups
  uses_over done s h [] c are = subst (λ ms. AreGroupUses p ms s c.groups) (sym (append-nil done)) are
  uses_over done s h (e ∷ es) c are =
      let m = moment p s e in
      let next = (step p s e).1 in
      subst (λ ms. AreGroupUses p ms (state_after p next es) (counted_over p (m ∷ run p next es) c).groups) (append_assoc done (m ∷ []) (run p next es))
      (uses_over (done ++ m ∷ []) next (step_keeps p ok s h e) es (counted_on p m c) (uses_step p done s m c.groups are e m.reply (taken_step p s h e)))

  module _ (s : State) (fresh : IsFresh s) (released : NoneReleasing s) where
    holds : Holds p s
    holds = subst (λ r. Inv p s.calls r s.numbers) (sym released) (subst (λ cs. Inv p cs set.empty s.numbers) (sym fresh.no_calls) (inv_opening p s.numbers))

    uses_from_none : (es : List Event) → AreGroupUses p (run p s es) (state_after p s es) (counted_over p (run p s es) (nothing_counted p)).groups
    uses_from_none es = uses_over [] s holds es (nothing_counted p) (none_used p ok s fresh released)

    -- THE SUMMARY is told of what was counted over the run
    told_over : (es : List Event) (opened : ℕ) → opened ≡ length (state_after p s es).calls → counts_text p (counted_over p (run p s es) (nothing_counted p)) opened ≡ summary_text p (run p s es) (state_after p s es)
    told_over es opened e =
        let ms = run p s es in
        let c = counted_over p ms (nothing_counted p) in
        let told : List ℕ → ℕ → List ℕ → List ℕ = λ x n y. x ++ (calls_line (codes "OPEN") n ++ (y ++ codes "END SUMMARY\n")) in
        let ended = flat_map (λ k. calls_line (cause_text k) (ended_by (flat_map tickets_made ms) k)) ALL in
        let most = flat_map (λ g. peak_line p g (use_at c.groups g).most) (range_with_len 0 (length p.groups)) in
        ap (λ x. told x opened most) (ended_told (flat_map tickets_made ms) c.calls (ended_from_none p ms))
        ∙ ap (told ended opened) (peaks_told p ms (state_after p s es) c.groups (uses_from_none es))
        ∙ ap (λ n. told ended n (flat_map (λ g. peak_line p g (peak p g ms)) (range_with_len 0 (length p.groups)))) e

-- ---- where it is asked for

pub new_counts : (p : Plan) (s : State) (summary : Bool) → (summary ≡ true → NoneReleasing s)
    → AreNew p s (counts_for p summary)
new_counts p s true released = (refl, released refl)
new_counts p s false released = tt

pub asked_is : (p : Plan) (t : Telling) → asked_of t.echo (counts_for p t.summary) ≡ t
asked_is p t = by t.summary refl
  where
    by : (summary : Bool) → t.summary ≡ summary → asked_of t.echo (counts_for p t.summary) ≡ t
    by true e = rw e refl
    by false e = rw e refl

module _ (p : Plan) (ok : IsPlan p) (s : State) (fresh : IsFresh s) (es : List Event) where
  pub few_counts : (first now : Option Counted) → AreNew p s first → now ≡ option_map (counted_over p (run p s es)) first → length es < 2 ^ 63 → AreFew now
  few_counts None now new is l = subst AreFew (sym is) tt
  few_counts (Some c) now new is l = subst AreFew (sym (is ∙ ap (λ z. Some (counted_over p (run p s es) z)) new.0)) (few_over p s es fresh l)

  -- the last lines
  pub last_told : (echo : Bool) (first now : Option Counted) (t : State) → AreNew p s first → now ≡ option_map (counted_over p (run p s es)) first → end_text t ≡ end_text (state_after p s es) → length t.calls ≡ length (state_after p s es).calls
      → last_lines p now t ≡ told_last p (asked_of echo first) s es None
  last_told echo None now t new is ends opened = ap (λ z. last_lines p z t) is ∙ ap (λ l. l ++ []) ends
  last_told echo (Some c) now t new is ends opened =
      ap (λ z. last_lines p z t) (is ∙ ap (λ z. Some (counted_over p (run p s es) z)) new.0)
      ∙ ap₂ (λ (x y : List ℕ). x ++ y) ends (told_over p ok s fresh new.1 es (length t.calls) opened)
