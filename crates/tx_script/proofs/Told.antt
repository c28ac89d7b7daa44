-- The lines of events that are told with their numbers.
use Rattle.tx_script.proofs.Common.{◌≡◌, ℕ, ◌+◌, Bool, true, false, List, [], ◌∷◌, ◌++◌, length, Option, inl, refl, sym, ap, ◌∙◌, append-nil, append_assoc, arith, StopsIn, Plan, Event, Reply, Ended, State, Moment, moment, run, drained, next, echo_asked, told_moment, told_moments, told_events, StopsInLines}
use Rattle.tx_script.proofs.Answering.{IsAnswer}
use Rattle.tx_script.proofs.Moments.{run_push, length_run, text_same}

-- ---- one event more

module _ (p : Plan) (echo : Bool) where
  told_push : (n : ℕ) (ms : List Moment) (m : Moment) (k : ℕ) → k ≡ n + length ms → told_moments p echo n (ms ++ m ∷ []) ≡ told_moments p echo n ms ++ told_moment p echo k m
  told_push n [] m k e = let same : n ≡ k = omega arith in append-nil (told_moment p echo n m) ∙ ap (λ z. told_moment p echo z m) same
  told_push n (x ∷ ms) m k e =
      let more : k ≡ (n + 1) + length ms = omega arith in
      ap (λ l. told_moment p echo n x ++ l) (told_push (n + 1) ms m k more) ∙ sym (append_assoc (told_moment p echo n x) (told_moments p echo (n + 1) ms) (told_moment p echo k m))

  pub told_more : (s : State) (es : List Event) (e : Event) → told_events p echo s (es ++ e ∷ []) ≡ told_events p echo s es ++ told_moment p echo (length es + 1) (next p s es e)
  told_more s es e =
      let n = length_run p s es in
      let k : length es + 1 ≡ 1 + length (run p s es) = omega arith in
      ap (told_moments p echo 1) (run_push p s es e) ∙ told_push 1 (run p s es) (next p s es e) (length es + 1) k

  -- the tickets that were taken before are no matter
  pub told_same : (n : ℕ) (s : State) (e : Event) → told_moment p echo n (moment p (drained s []) e) ≡ told_moment p echo n (moment p s e)
  told_same n s e = ap (λ l. echo_asked echo p n e ++ l) (text_same p s e)

-- ---- an event whose own line was not written whole

front_of_none : (front back : List ℕ) → [] ≡ front ++ back → back ≡ []
front_of_none [] back e = sym e
front_of_none (x ∷ front) back e = let bad : ⊥ = cc in absurd bad

-- what is not told does not stop
none_stops : {a b : Option (List ℕ)} → StopsIn a b [] → ⊥
none_stops h = h.left (front_of_none h.front h.back h.whole)

pub untold_echo : (p : Plan) (s : State) (e : Event) (reply : Reply) (t : State) (a b : Option (List ℕ)) (echo : Bool) (n : ℕ) → IsAnswer p s e reply t → StopsIn a b (echo_asked echo p n e) → StopsInLines p echo n (moment p s e) t a b
untold_echo p s e reply t a b true n i stop = inl (
  refl,
  record {
    front = stop;
    network = sym (ap (λ (l : List Ended). drained (moment p s e).after l) i.made ∙ ap (λ (u : State). drained u t.tickets) i.after);
  },
)
untold_echo p s e reply t a b false n i stop = absurd (none_stops stop)
