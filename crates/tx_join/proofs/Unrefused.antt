-- Where nothing refuses a joined network.
use Rattle.tx_join.proofs.Common.{◌≡◌, ◌≢◌, ℕ, zero, suc, ◌+◌, ◌<◌, ◌≤◌, Bool, true, false, not, cond, nat_lt, List, length, inl, inr, Option, Some, None, refl, sym, ap, ◌∙◌, arith, find, range_with_len, option_map, option_map_or, option_or, bytes_eq, not-false, and_parts, or_parts, cases_eq, true≢false, nat_tests, bytes_eq-Decides, Direction, OneWay, BothWay, Plan, code_named, group_named, exchange_name, figures_of, group_name, home_of, ends_of, direction_of, OtherHome, OtherGroup, TooMany, joined_network, is_same_direction, is_same_exchange, is_same_group, has_other_home, has_other_group, has_too_many, refused_if, join_refusal}
use Rattle.tx_join.specs.declared.refusal.JoinRefusal.{JoinRefusal}

none_among : (t : ℕ → Bool) (a n : ℕ) → find t (range_with_len a n) ≡ None → (i : ℕ) → a ≤ i → i < a + n → t i ≡ false
none_among t a zero h i l m = absurd (omega (arith, l, m))
none_among t a (suc n) h i l m = by (t a) refl h (λ k s. none_among t (a + 1) n k i (omega (arith, l, s)) (omega (arith, m)))
  where
    by : (b : Bool) → t a ≡ b → cond b (Some a) (find t (range_with_len (a + 1) n)) ≡ None → (find t (range_with_len (a + 1) n) ≡ None → a ≢ i → t i ≡ false) → t i ≡ false
    by true e k rest = absurd (let bad : ⊥ = cc in bad)
    by false e k rest = elim (cases_eq a i) [ inl s ↦ ap t (sym s) ∙ e | inr s ↦ rest k s ]

first_none : (o p : Option JoinRefusal) → option_or o p ≡ None → (o ≡ None) × (p ≡ None)
first_none None p h = (refl, h)
first_none (Some x) p h = absurd (let bad : ⊥ = cc in bad)

map_none : (f : ℕ → JoinRefusal) (o : Option ℕ) → option_map f o ≡ None → o ≡ None
map_none f None h = refl
map_none f (Some x) h = absurd (let bad : ⊥ = cc in bad)

if_none : (b : Bool) (r : JoinRefusal) → refused_if b r ≡ None → b ≡ false
if_none true r h = absurd (let bad : ⊥ = cc in bad)
if_none false r h = refl

same_name : (w z : List ℕ) → not (bytes_eq w z) ≡ false → w ≡ z
same_name w z h = (bytes_eq-Decides w z).0 (not-false (bytes_eq w z) h)

same_direction : (d e : Direction) → is_same_direction d e ≡ true → d ≡ e
same_direction OneWay OneWay h = refl
same_direction OneWay BothWay h = absurd (true≢false (sym h))
same_direction BothWay OneWay h = absurd (true≢false (sym h))
same_direction BothWay BothWay h = refl

not_more : (m n : ℕ) → nat_lt m n ≡ false → n ≤ m
not_more m n h = grind (arith, nat_tests)

-- the same group in both plans
pub record IsOneGroup (old new : Plan) (h g : ℕ) : Type 0 where
  pub first : exchange_name old (ends_of old h).0 ≡ exchange_name new (ends_of new g).0
  pub second : exchange_name old (ends_of old h).1 ≡ exchange_name new (ends_of new g).1
  pub direction : direction_of old h ≡ direction_of new g

module _ (old new : Plan) (none : join_refusal old new ≡ None) where
  parts : (find (has_other_home old new) (range_with_len 0 (length new.codes)) ≡ None) × ((find (has_other_group old new) (range_with_len 0 (length new.groups)) ≡ None) × (has_too_many (joined_network old new) ≡ false))
  parts =
      let a = first_none _ _ none in
      let b = first_none _ _ a.1 in
      (map_none (λ c. OtherHome c) _ a.0, (map_none (λ g. OtherGroup g) _ b.0, if_none _ TooMany b.1))

  -- a code of both plans is at home at one exchange
  pub one_home : (c d : ℕ) → c < length new.codes → code_named old (figures_of new c) ≡ Some d → exchange_name old (home_of old d) ≡ exchange_name new (home_of new c)
  one_home c d l e =
      let h = none_among (has_other_home old new) 0 (length new.codes) parts.0 c (omega arith) (omega (arith, l)) in
      same_name _ _ (ap (λ o. option_map_or (λ d. not (is_same_exchange old new (home_of old d) (home_of new c))) o false) (sym e) ∙ h)

  pub one_group : (g h : ℕ) → g < length new.groups → group_named old (group_name new g) ≡ Some h → IsOneGroup old new h g
  one_group g h l e =
      let n = none_among (has_other_group old new) 0 (length new.groups) parts.1.0 g (omega arith) (omega (arith, l)) in
      let s = not-false (is_same_group old new h g) (ap (λ o. option_map_or (λ k. not (is_same_group old new k g)) o false) (sym e) ∙ n) in
      let a = and_parts (is_same_exchange old new (ends_of old h).0 (ends_of new g).0) _ s in
      let b = and_parts (is_same_exchange old new (ends_of old h).1 (ends_of new g).1) (is_same_direction (direction_of old h) (direction_of new g)) a.1 in
      record { first = (bytes_eq-Decides _ _).0 a.0; second = (bytes_eq-Decides _ _).0 b.0; direction = same_direction _ _ b.1 }

  few : (nat_lt 256 (length (joined_network old new).exchanges) ≡ false) × ((nat_lt 1100 (length (joined_network old new).codes) ≡ false) × (nat_lt 4096 (length (joined_network old new).groups) ≡ false))
  few =
      let a = or_parts (nat_lt 256 (length (joined_network old new).exchanges)) _ parts.1.1 in
      let b = or_parts (nat_lt 1100 (length (joined_network old new).codes)) _ a.1 in
      (a.0, (b.0, b.1))

  pub few_exchanges : length (joined_network old new).exchanges ≤ 256
  few_exchanges = not_more 256 _ few.0

  pub few_codes : length (joined_network old new).codes ≤ 1100
  few_codes = not_more 1100 _ few.1.0

  pub few_groups : length (joined_network old new).groups ≤ 4096
  few_groups = not_more 4096 _ few.1.1
