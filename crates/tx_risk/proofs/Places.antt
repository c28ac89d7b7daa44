-- Where an outage stands among all outages of a plan.
use Rattle.tx_risk.proofs.Common.{◌≡◌, ℕ, zero, suc, ◌+◌, ◌<◌, ◌≤◌, Bool, true, false, List, [], ◌++◌, length, length-append, append-nil, map, Some, None, refl, sym, ap, ◌∙◌, arith, eq-eqb, ne_eqb, range_with_len, Plan, group_name, group_named, NamedRisk, Outage, Exchange, Group, Named}
use Rattle.std.specs.Prelude.{position, ◌==◌}
use Rattle.std.proofs.lemmas.Bool.{le-ltb, lt-ltb}
use Rattle.std.proofs.lemmas.List.FromFn.{length-map-range_with_len}
use Rattle.std.specs.List.{position_or_len}
use Rattle.tx_plan.proofs.ByIndex.{index_within}
use Rattle.tx_plan.specs.Plan.{exchange_name, exchange_named}
use Rattle.tx_risk.specs.Compared.{is_outage, place_in}
use Rattle.tx_risk.specs.Outages.{all_outages}

module _ (t : Outage → Bool) where
  -- past outages of one kind that fail a test
  past : (f : ℕ → Outage) (a n : ℕ) (ys : List Outage) → ((k : ℕ) → k < a + n → t (f k) ≡ false)
      → position_or_len t (map f (range_with_len a n) ++ ys) ≡ n + position_or_len t ys
  past f a zero ys none = omega arith
  past f a (suc n) ys none =
      let more = past f (a + 1) n ys (λ k low. none k (omega (arith, low))) in
      rw (none a (omega arith)) (omega (arith, more))

  -- up to the first one that passes
  up_to : (f : ℕ → Outage) (h a n : ℕ) (ys : List Outage) → h < n → t (f (a + h)) ≡ true
      → ((k : ℕ) → k < a + h → t (f k) ≡ false)
      → position_or_len t (map f (range_with_len a n) ++ ys) ≡ h
  up_to f h a zero ys low here before = absurd (omega (arith, low))
  up_to f zero a (suc n) ys low here before =
      let same : a + 0 ≡ a = omega arith in
      let first = ap (λ k. t (f k)) (sym same) ∙ here in
      rw first refl
  up_to f (suc h) a (suc n) ys low here before =
      let same : a + suc h ≡ (a + 1) + h = omega arith in
      let more = up_to f h (a + 1) n ys (omega (arith, low)) (ap (λ k. t (f k)) (sym same) ∙ here)
      (λ k less. before k (omega (arith, less))) in
      rw (before a (omega arith)) (omega (arith, more))

  found : (xs : List Outage) (i : ℕ) → position_or_len t xs ≡ i → i < length xs → position t xs ≡ Some i
  found xs i at low = rw (at, lt-ltb i (length xs) low) refl

  missed : (xs : List Outage) → position_or_len t xs ≡ length xs → position t xs ≡ None
  missed xs at = rw (at, le-ltb (length xs) (length xs) (omega arith)) refl

differ : (i k : ℕ) → k < i → (i == k) ≡ false
differ i k low = ne_eqb i k (λ e. absurd (omega (arith, low, e)))

module _ (p : Plan) (risks : List NamedRisk) where
  abbrev n : ℕ
  n = length risks

  abbrev m : ℕ
  m = length p.groups

  abbrev groups : List Outage
  groups = map Group (range_with_len 0 m)

  abbrev exchanges : List Outage
  exchanges = map Exchange (range_with_len 0 (length p.exchanges))

  all_long : length (all_outages p risks false) ≡ n + (m + length p.exchanges)
  all_long =
      let a = length-append (map Named (range_with_len 0 n)) (groups ++ exchanges) in
      let b = length-append groups exchanges in
      let c = length-map-range_with_len Named 0 n in
      let d = length-map-range_with_len Group 0 m in
      let e = length-map-range_with_len Exchange 0 (length p.exchanges) in
      omega (arith, a, b, c, d, e)

  pub named_place : (i : ℕ) → i < n
      → position (is_outage (Named i)) (all_outages p risks false) ≡ Some i
  named_place i low =
      let t = is_outage (Named i) in
      found t (all_outages p risks false) i
      (up_to t Named i 0 n (groups ++ exchanges) low (eq-eqb i (0 + i) (omega arith)) (λ k less. differ i k (omega (arith, less))))
      (omega (arith, low, all_long))

  -- there is no such named risk
  pub no_named_place : (i : ℕ) → n ≤ i
      → position (is_outage (Named i)) (all_outages p risks false) ≡ None
  no_named_place i high =
      let t = is_outage (Named i) in
      let a = past t Named 0 n (groups ++ exchanges) (λ k less. differ i k (omega (arith, less, high))) in
      let b = past t Group 0 m exchanges (λ k less. refl) in
      let c = past t Exchange 0 (length p.exchanges) [] (λ k less. refl) in
      let d = ap (position_or_len t) (append-nil exchanges) in
      missed t (all_outages p risks false) (omega (arith, a, b, c, d, all_long))

  pub group_place : (h : ℕ) → h < m
      → position (is_outage (Group h)) (all_outages p risks false) ≡ Some (n + h)
  group_place h low =
      let t = is_outage (Group h) in
      let a = past t Named 0 n (groups ++ exchanges) (λ k less. refl) in
      let b = up_to t Group h 0 m exchanges low (eq-eqb h (0 + h) (omega arith)) (λ k less. differ h k (omega (arith, less))) in
      found t (all_outages p risks false) (n + h) (omega (arith, a, b)) (omega (arith, low, all_long))

  pub exchange_place : (y : ℕ) → y < length p.exchanges
      → position (is_outage (Exchange y)) (all_outages p risks false) ≡ Some (n + m + y)
  exchange_place y low =
      let t = is_outage (Exchange y) in
      let a = past t Named 0 n (groups ++ exchanges) (λ k less. refl) in
      let b = past t Group 0 m exchanges (λ k less. refl) in
      let c = up_to t Exchange y 0 (length p.exchanges) [] low (eq-eqb y (0 + y) (omega arith)) (λ k less. differ y k (omega (arith, less))) in
      let d = ap (position_or_len t) (append-nil exchanges) in
      found t (all_outages p risks false) (n + m + y) (omega (arith, a, b, c, d))
      (omega (arith, low, all_long))

  -- of a group and of an exchange, by their names
  pub place_of_group : (q : Plan) (g h s : ℕ) → group_named p (group_name q g) ≡ Some h → s ≡ n + h
      → Some s ≡ place_in q p risks (Group g)
  place_of_group q g h s named sum =
      rw named (ap Some sum ∙ sym (group_place h (index_within _ p.groups h named)))

  pub place_of_exchange : (q : Plan) (x y s : ℕ)
      → exchange_named p (exchange_name q x) ≡ Some y → s ≡ n + m + y
      → Some s ≡ place_in q p risks (Exchange x)
  place_of_exchange q x y s named sum =
      rw named (ap Some sum ∙ sym (exchange_place y (index_within _ p.exchanges y named)))
