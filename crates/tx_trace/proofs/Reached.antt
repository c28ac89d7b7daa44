-- The exchanges met are those where a way ends, each once.
use Rattle.tx_trace.proofs.Common.{◌≡◌, ℕ, zero, suc, ◌+◌, ◌-◌, ◌<◌, ◌≤◌, ◌||◌, true, false, eqb, eqb-true, cond, List, [], ◌∷◌, ◌++◌, length, inl, inr, Some, None, refl, sym, ap, subst, ◌∙◌, arith, slice_get, fold, option_map_or, cases_lt, eq-eqb, false≢true, length-le_from_distinct_below, Plan, IsPlan, Among, AllDiffer, Goes, end_of, IsReached, is_net, all_distinct, any_among, once_push, is_in, far_ends, meet, meet_from, met_before, all_met, net_from}
use Rattle.std.proofs.lemmas.Option.{slice_get_past, slice_get_within}
use Rattle.tx_plan.proofs.Among.{among_left, among_right}
use Rattle.tx_trace.proofs.Ends.{among_ends}
use Rattle.tx_trace.proofs.Rounds.{all_reached}

-- ---- one list

pub among_in : (y : ℕ) (xs : List ℕ) → Among y xs → is_in y xs ≡ true
among_in y [] m = absurd m
among_in y (z ∷ xs) (inl e) = ap (λ b. b || is_in y xs) (eq-eqb z y e)
among_in y (z ∷ xs) (inr m) = elim (eqb z y) as (λ b. (b || is_in y xs) ≡ true) [ true ↦ refl | false ↦ among_in y xs m ]

pub in_among : (y : ℕ) (xs : List ℕ) → is_in y xs ≡ true → Among y xs
in_among y [] e = absurd (false≢true e)
in_among y (z ∷ xs) e =
    elim (eqb z y) as (λ b. eqb z y ≡ b → (b || is_in y xs) ≡ true → Among y (z ∷ xs)) [
      | true ↦ λ q h. inl (eqb-true z y q)
      | false ↦ λ q h. inr (in_among y xs h)
    ] refl e

index_of : (y : ℕ) (xs : List ℕ) → Among y xs → (i : ℕ) × (slice_get xs i ≡ Some y)
index_of y [] m = absurd m
index_of y (z ∷ xs) (inl e) = (0, ap (λ k. Some k) e)
index_of y (z ∷ xs) (inr m) = let r = index_of y xs m in (suc r.0, r.1)

there_before : (xs : List ℕ) (y i z : ℕ) → slice_get xs i ≡ Some z → slice_get (xs ++ y ∷ []) i ≡ Some z
there_before [] y i z e = absurd (let bad : ⊥ = cc in bad)
there_before (w ∷ xs) y zero z e = e
there_before (w ∷ xs) y (suc i) z e = there_before xs y i z e

-- ---- an exchange is met, and others stay

kept_meet : (met : List ℕ) (y z : ℕ) → Among z met → Among z (meet met y)
kept_meet met y z m = elim (is_in y met) as (λ b. Among z (cond b met (met ++ y ∷ []))) [ true ↦ m | false ↦ among_left z met (y ∷ []) m ]

added_meet : (met : List ℕ) (y : ℕ) → Among y (meet met y)
added_meet met y =
    elim (is_in y met) as (λ b. is_in y met ≡ b → Among y (cond b met (met ++ y ∷ []))) [
      | true ↦ λ e. in_among y met e
      | false ↦ λ e. among_right y met (y ∷ []) (inl refl)
    ] refl

once_meet : (met : List ℕ) (y : ℕ) → AllDiffer met → AllDiffer (meet met y)
once_meet met y d =
    elim (is_in y met) as (λ b. is_in y met ≡ b → AllDiffer (cond b met (met ++ y ∷ []))) [
      | true ↦ λ e. d
      | false ↦ λ e. once_push met y d (λ m. false≢true (sym e ∙ among_in y met m))
    ] refl

at_meet : (met : List ℕ) (y i z : ℕ) → slice_get met i ≡ Some z → slice_get (meet met y) i ≡ Some z
at_meet met y i z e = elim (is_in y met) as (λ b. slice_get (cond b met (met ++ y ∷ [])) i ≡ Some z) [ true ↦ e | false ↦ there_before met y i z e ]

kept_fold : (met ys : List ℕ) (z : ℕ) → Among z met → Among z (fold meet met ys)
kept_fold met [] z m = m
kept_fold met (y ∷ ys) z m = kept_fold (meet met y) ys z (kept_meet met y z m)

added_fold : (met ys : List ℕ) (z : ℕ) → Among z ys → Among z (fold meet met ys)
added_fold met [] z m = absurd m
added_fold met (y ∷ ys) z (inl e) = kept_fold (meet met y) ys z (subst (λ k. Among k (meet met y)) e (added_meet met y))
added_fold met (y ∷ ys) z (inr m) = added_fold (meet met y) ys z m

once_fold : (met ys : List ℕ) → AllDiffer met → AllDiffer (fold meet met ys)
once_fold met [] d = d
once_fold met (y ∷ ys) d = once_fold (meet met y) ys (once_meet met y d)

at_fold : (met ys : List ℕ) (i z : ℕ) → slice_get met i ≡ Some z → slice_get (fold meet met ys) i ≡ Some z
at_fold met [] i z e = e
at_fold met (y ∷ ys) i z e = at_fold (meet met y) ys i z (at_meet met y i z e)

-- ---- round by round

module _ (p : Plan) (c x : ℕ) where
  abbrev met : ℕ → List ℕ
  met k = met_before p c x k

  abbrev added : ℕ → List ℕ
  added k = option_map_or (far_ends p c) (slice_get (met k) k) []

  once_met : (k : ℕ) → AllDiffer (met k)
  once_met zero = (tt, tt)
  once_met (suc k) = once_fold (met k) (added k) (once_met k)

  pub all_once : AllDiffer (all_met p c x)
  all_once = once_met (length p.exchanges)

  later : (k j : ℕ) → met (k + suc j) ≡ met (suc (k + j))
  later k j = ap met (let z : k + suc j ≡ suc (k + j) = omega arith in z)

  same : (k : ℕ) → met (k + zero) ≡ met k
  same k = ap met (let z : k + zero ≡ k = omega arith in z)

  at_later : (k j i z : ℕ) → slice_get (met k) i ≡ Some z → slice_get (met (k + j)) i ≡ Some z
  at_later k zero i z e = ap (λ l. slice_get l i) (same k) ∙ e
  at_later k (suc j) i z e = ap (λ l. slice_get l i) (later k j) ∙ at_fold (met (k + j)) (added (k + j)) i z (at_later k j i z e)

  kept_later : (k j z : ℕ) → Among z (met k) → Among z (met (k + j))
  kept_later k zero z m = subst (Among z) (sym (same k)) m
  kept_later k (suc j) z m = subst (Among z) (sym (later k j)) (kept_fold (met (k + j)) (added (k + j)) z (kept_later k j z m))

  -- once all that are met have added theirs, no more are met
  stays : (k j : ℕ) → length (met k) ≤ k → met (k + j) ≡ met k
  stays k zero h = same k
  stays k (suc j) h =
      let past : slice_get (met k) (k + j) ≡ None = slice_get_past (met k) (k + j) (omega arith) in
      later k j ∙ ap (meet_from p c (k + j)) (stays k j h) ∙ ap (λ o. fold meet (met k) (option_map_or (far_ends p c) o [])) past

  module _ (ok : IsPlan p) (known : c < length p.codes) (start : x < length p.exchanges) where
    reached : IsReached (net_from p c x) x
    reached = record { start = x; steps = []; walk = record { origin = eq-eqb x x refl; goes = tt }; ends = refl }

    within_from : (y : ℕ) (steps : List (ℕ × ℕ)) → y < length p.exchanges → Goes (net_from p c x) y steps → end_of y steps < length p.exchanges
    within_from y [] h go = h
    within_from y (s ∷ steps) h go =
        let l = (is_net p ok c known).leads y s.0 go.1 in
        let to : l.0 ≡ s.1 = let a = l.1 in let b = go.2 in cc in
        within_from s.1 steps (let w = l.2 in omega (arith, w, to)) go.3

    within : (y : ℕ) → IsReached (net_from p c x) y → y < length p.exchanges
    within y r =
        let from : r.start ≡ x = eqb-true r.start x r.walk.origin in
        let w = within_from r.start r.steps (omega (arith, from, start)) r.walk.goes in
        let e = r.ends in omega (arith, w, e)

    few : length (all_met p c x) ≤ length p.exchanges
    few = length-le_from_distinct_below (all_met p c x) (length p.exchanges) (all_distinct (all_met p c x) all_once) (λ q m. within q (all_reached p c x reached q (any_among q (all_met p c x) m)))

    -- each that is met has added those to which its groups lead
    opened : (y z : ℕ) → Among y (all_met p c x) → Among z (far_ends p c y) → Among z (all_met p c x)
    opened y z m to =
        let n = length p.exchanges in
        let at = index_of y (all_met p c x) m in
        let i = at.0 in
        let inside = slice_get_within (all_met p c x) i y at.1 in
        let rest = n - i in
        let whole : i + rest ≡ n = let f = few in omega arith in
        elim (cases_lt i (length (met i))) [
          | inl less ↦
              let here = index_at (met i) i less in
              let again : slice_get (all_met p c x) i ≡ Some here.0 = ap (λ k. slice_get (met k) i) (sym whole) ∙ at_later i rest i here.0 here.1 in
              let is : here.0 ≡ y = let a = at.1 in cc in
              let adds : Among z (met (suc i)) = subst (λ o. Among z (fold meet (met i) (option_map_or (far_ends p c) o []))) (sym (here.1 ∙ ap (λ k. Some k) is)) (added_fold (met i) (far_ends p c y) z to) in
              subst (λ k. Among z (met k)) (let w : suc i + (rest - 1) ≡ n = let f = few in omega arith in w) (kept_later (suc i) (rest - 1) z adds)
          | inr more ↦
              let stuck : met n ≡ met i = ap met (sym whole) ∙ stays i rest more in
              let bad : length (met n) ≡ length (met i) = ap length stuck in
              absurd (omega (arith, bad, more, inside))
        ]
      where
        index_at : (xs : List ℕ) (i : ℕ) → i < length xs → (w : ℕ) × (slice_get xs i ≡ Some w)
        index_at [] i h = absurd (omega (arith, h))
        index_at (w ∷ xs) zero h = (w, refl)
        index_at (w ∷ xs) (suc i) h = index_at xs i (omega (arith, h))

    goes_on : (y : ℕ) (steps : List (ℕ × ℕ)) → Among y (all_met p c x) → Goes (net_from p c x) y steps → Among (end_of y steps) (all_met p c x)
    goes_on y [] m go = m
    goes_on y (s ∷ steps) m go =
        goes_on s.1 steps (opened y s.1 m (among_ends p c y s.1 (record { away = go.0; group = s.0; listed = go.1; leads = go.2 }))) go.3

    pub reached_met : (y : ℕ) → IsReached (net_from p c x) y → Among y (all_met p c x)
    reached_met y r =
        let from : x ≡ r.start = sym (eqb-true r.start x r.walk.origin) in
        let n = length p.exchanges in
        let first : Among x (met n) = subst (λ k. Among x (met k)) (let z : 0 + n ≡ n = omega arith in z) (kept_later 0 n x (inl refl)) in
        subst (λ k. Among k (all_met p c x)) r.ends (goes_on r.start r.steps (subst (λ k. Among k (all_met p c x)) from first) r.walk.goes)

    pub met_reached : (y : ℕ) → Among y (all_met p c x) → IsReached (net_from p c x) y
    met_reached y m = all_reached p c x reached y m
