-- The calls listed are those that can pass: some walk by the lists does.
use Rattle.tx_trace.proofs.Common.{◌≡◌, ◌≢◌, ℕ, zero, suc, ◌+◌, ◌<◌, ◌==◌, ◌&&◌, Bool, true, false, not, cond, eqb-true, List, [], ◌∷◌, ◌++◌, map, length, inl, inr, Some, refl, sym, ap, subst, ◌∙◌, append_assoc, arith, flat_map, range_with_len, Pair, Plan, home_of, IsPlan, other_end, Among, any_mem, mem_any, net_of, Goes, end_of, is_net, goes_push, is_in, all_met, net_from}
use Rattle.std.proofs.lemmas.Bool.{and_parts, and_from, not-true, not_from_false, eqb-false, eq-eqb, ne_eqb}
use Rattle.tx_text.proofs.Ranges.{flat_map-range_more}
use Rattle.tx_plan.specs.Routes.{route_list, is_origin_for}
use Rattle.tx_plan.proofs.Among.{among_flat, flat_among}
use Rattle.tx_trace.specs.declared.through.Through.{Through}
use Rattle.tx_trace.specs.declared.through.Through.TheVariants.{Exchange, Group}
use Rattle.tx_trace.specs.Through.{is_there, may_pass, passing, passing_for, calls_through, Pass, CanPass}
use Rattle.tx_trace.proofs.Reached.{among_in, in_among, reached_met, met_reached}

-- ---- what the entries before an index have added, and one more

module _ {A : Type 0} (f : ℕ → List A) where
  pub grown : (old now new : List A) (i x : ℕ) → x ≡ i → now ≡ old ++ flat_map f (range_with_len 0 i) → new ≡ now ++ f x → new ≡ old ++ flat_map f (range_with_len 0 (i + 1))
  grown old now new i x at e h =
      h ∙ ap (λ (l : List A). l ++ f x) e ∙ append_assoc old (flat_map f (range_with_len 0 i)) (f x)
      ∙ ap (λ (l : List A). old ++ l) (ap (λ (k : ℕ). flat_map f (range_with_len 0 i) ++ f k) at ∙ sym (flat_map-range_more f i))

-- ---- indexes

below : (a n k : ℕ) → Among k (range_with_len a n) → k < a + n
below a zero k m = absurd m
below a (suc n) k (inl e) = omega (arith, e)
below a (suc n) k (inr m) = let r = below (a + 1) n k m in omega (arith, r)

in_range : (a n k : ℕ) → k < n → Among (a + k) (range_with_len a n)
in_range a zero k h = absurd (omega (arith, h))
in_range a (suc n) zero h = inl (let e : a ≡ a + 0 = omega arith in e)
in_range a (suc n) (suc k) h = inr (subst (λ z. Among z (range_with_len (a + 1) n)) (let e : (a + 1) + k ≡ a + suc k = omega arith in e) (in_range (a + 1) n k (omega (arith, h))))

below_all : (n k : ℕ) → Among k (range_with_len 0 n) → k < n
below_all n k m = let r = below 0 n k m in omega (arith, r)

in_all : (n k : ℕ) → k < n → Among k (range_with_len 0 n)
in_all n k h = subst (λ z. Among z (range_with_len 0 n)) (let e : 0 + k ≡ k = omega arith in e) (in_range 0 n k h)

-- ---- steps

last_by : (g z : ℕ) (steps : List (ℕ × ℕ)) → Among g (map (λ s. s.0) (steps ++ (g, z) ∷ []))
last_by g z [] = inl refl
last_by g z (s ∷ steps) = inr (last_by g z steps)

-- some steps lead to an exchange that may go on by a group
record IsBefore (p : Plan) (c g x : ℕ) : Type 0 where
  front : List (ℕ × ℕ)
  goes : Goes (net_of p c) x front
  away : end_of x front ≢ home_of p c
  listed : Among g (route_list p (end_of x front) c)

before_step : (p : Plan) (c g x : ℕ) (steps : List (ℕ × ℕ)) → Goes (net_of p c) x steps → Among g (map (λ s. s.0) steps) → IsBefore p c g x
before_step p c g x [] go m = absurd m
before_step p c g x (s ∷ steps) go (inl e) =
    record { front = []; goes = tt; away = go.0; listed = subst (λ k. Among k (route_list p x c)) e go.1 }
before_step p c g x (s ∷ steps) go (inr m) =
    let r = before_step p c g s.1 steps go.3 m in
    record { front = s ∷ r.front; goes = (go.0, go.1, go.2, r.goes); away = r.away; listed = r.listed }

module _ (p : Plan) (ok : IsPlan p) (c x : ℕ) (known : c < length p.codes) (start : x < length p.exchanges) where
  of_plan : (y : ℕ) (steps : List (ℕ × ℕ)) → Goes (net_from p c x) y steps → Goes (net_of p c) y steps
  of_plan y [] go = tt
  of_plan y (s ∷ steps) go = (go.0, go.1, go.2, of_plan s.1 steps go.3)

  from_x : (y : ℕ) (steps : List (ℕ × ℕ)) → Goes (net_of p c) y steps → Goes (net_from p c x) y steps
  from_x y [] go = tt
  from_x y (s ∷ steps) go = (go.0, go.1, go.2, from_x s.1 steps go.3)

  -- where calls may come, some steps from x end, and the other way round
  steps_to : (y : ℕ) → Among y (all_met p c x) → (steps : List (ℕ × ℕ)) × Goes (net_of p c) x steps × (end_of x steps ≡ y)
  steps_to y m =
      let r = met_reached p c x ok known start y m in
      subst (λ k. (steps : List (ℕ × ℕ)) × Goes (net_of p c) k steps × (end_of k steps ≡ y)) (eqb-true r.start x r.walk.origin)
      (r.steps, of_plan r.start r.steps r.walk.goes, r.ends)

  met_at : (steps : List (ℕ × ℕ)) → Goes (net_of p c) x steps → Among (end_of x steps) (all_met p c x)
  met_at steps go =
      reached_met p c x ok known start (end_of x steps)
      (record { start = x; steps = steps; walk = record { origin = eq-eqb x x refl; goes = from_x x steps go }; ends = refl })

  passing_walk : (t : Through) → may_pass p t c x ≡ true → (steps : List (ℕ × ℕ)) × Goes (net_of p c) x steps × Pass t x steps
  passing_walk (Exchange y) h =
      let r = any_mem (is_there p c (Exchange y)) (all_met p c x) h in
      let s = steps_to r.0 r.1 in
      (s.0, s.1, s.2 ∙ eqb-true r.0 y r.2)
  passing_walk (Group g) h =
      let r = any_mem (is_there p c (Group g)) (all_met p c x) h in
      let s = steps_to r.0 r.1 in
      let both = and_parts (not (r.0 == home_of p c)) (is_in g (route_list p r.0 c)) r.2 in
      let away = eqb-false r.0 (home_of p c) (not-true (r.0 == home_of p c) both.0) in
      let listed = in_among g (route_list p r.0 c) both.1 in
      let on = (is_net p ok c known).leads r.0 g listed in
      let at = sym s.2 in (
        s.0 ++ (g, on.0) ∷ [],
        goes_push (net_of p c) x s.0 (g, on.0) s.1 (λ e. away (at ∙ e)) (subst (λ (k : ℕ). Among g (route_list p k c)) at listed)
            (subst (λ (k : ℕ). other_end p g k ≡ Some on.0) at on.1),
        last_by g on.0 s.0,
      )

  walk_passing : (t : Through) (steps : List (ℕ × ℕ)) → Goes (net_of p c) x steps → Pass t x steps → may_pass p t c x ≡ true
  walk_passing (Exchange y) steps go e =
      mem_any (is_there p c (Exchange y)) (all_met p c x) (end_of x steps) (met_at steps go) (eq-eqb (end_of x steps) y e)
  walk_passing (Group g) steps go m =
      let r = before_step p c g x steps go m in
      let y = end_of x r.front in
      mem_any (is_there p c (Group g)) (all_met p c x) y (met_at r.front r.goes)
      (and_from (not (y == home_of p c)) (is_in g (route_list p y c)) (not_from_false (y == home_of p c) (ne_eqb y (home_of p c) r.away))
      (among_in g (route_list p y c) r.listed))

-- ---- those listed

module _ (p : Plan) (ok : IsPlan p) (t : Through) (k : Pair) where
  abbrev Passes : Pair → Type 0
  Passes r = (r.code < length p.codes) × (r.exchange < length p.exchanges) × CanPass p t r.code r.exchange

  one_listed : (c x : ℕ) → c < length p.codes → x < length p.exchanges → Among k (passing p t c x) → Passes k
  one_listed c x known start =
      elim (is_origin_for p x c && may_pass p t c x) as (λ (b : Bool). (is_origin_for p x c && may_pass p t c x) ≡ b → Among k (cond b (record { exchange = x; code = c } ∷ []) []) → Passes k) [
        | true ↦ λ e m. elim m [
          | inl q ↦
              (let both = and_parts (is_origin_for p x c) (may_pass p t c x) e in
              let w = passing_walk p ok c x known start t both.1 in
              subst Passes q (known, start, record { steps = w.0; walk = record { origin = both.0; goes = w.1 }; pass = w.2 }))
          | inr f ↦ absurd f
        ]
        | false ↦ λ e m. absurd m
      ] refl

  pub listed_pass : Among k (calls_through p t) → Passes k
  listed_pass m =
      let a = flat_among (passing_for p t) k (range_with_len 0 (length p.codes)) m in
      let b = flat_among (passing p t a.0) k (range_with_len 0 (length p.exchanges)) a.2 in
      one_listed a.0 b.0 (below_all (length p.codes) a.0 a.1) (below_all (length p.exchanges) b.0 b.1) b.2

  pub pass_listed : Passes k → Among k (calls_through p t)
  pass_listed w =
      let may = walk_passing p ok k.code k.exchange w.0 w.1 t w.2.steps w.2.walk.goes w.2.pass in
      among_flat (passing_for p t) k.code k (range_with_len 0 (length p.codes)) (in_all (length p.codes) k.code w.0)
      (among_flat (passing p t k.code) k.exchange k (range_with_len 0 (length p.exchanges)) (in_all (length p.exchanges) k.exchange w.1)
      (subst (λ b. Among k (cond b (record { exchange = k.exchange; code = k.code } ∷ []) [])) (sym (and_from (is_origin_for p k.exchange k.code) (may_pass p t k.code k.exchange) w.2.walk.origin may)) (inl refl)))
