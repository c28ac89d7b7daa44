-- The next entry of a plan that is declared anew: nothing but lack of memory refuses it.
use Rattle.std.proofs.Common.{◌≡◌, ◌≢◌, ℕ, suc, ◌+◌, ◌<◌, ◌≤◌, Bool, true, false, not, ◌||◌, ◌&&◌, ◌==◌, nat_le, List, [], ◌∷◌, ◌++◌, length, take, drop, Option, Some, None, ◌⊎◌, inl, inr, refl, sym, ap, ◌∙◌, subst, arith, eq-eqb, eqb-true, unwrap_or, length-append}
use Rattle.tx_join.proofs.Common.{same_Some, list_any, AllByRecursion, bytes_eq, nat_tests, take-append-drop, is_name, filter, slice_get, option_map_or, LineRange, Plan, Code, Group, Direction, OneWay, EachPair, IsPlan, IsCode, IsGroup, IsRange, exchange_named, code_named, exchange_name, figures_of, group_name, home_of, ends_of, direction_of, count_of, all_kept, entry_at, all_at, take_next, exchange_back, code_back, first_true, exchange_refusals, code_refusals, lines_refusals, group_refusals, with_exchange, with_code, with_lines, with_group, and_parts, and_from, false_from_ne_true, true≢false}
use Rattle.std.proofs.lemmas.Bool.{leb-true}
use Rattle.std.proofs.lemmas.List.Sums.{length-filter, count_by-le-length}
use Rattle.tx_down.proofs.Common.{no_plan, is_one_of, its_exchanges, its_codes, its_ranges}
use Rattle.tx_plan.specs.Rules.{AreSeparate}
use Rattle.tx_plan.specs.Numbers.{at_most, shares}
use Rattle.tx_plan.specs.Declaring.{exchange_at, code_at, overlaps}
use Rattle.tx_plan.specs.declared.refusal.PlanRefusal.{PlanRefusal}
use Rattle.tx_plan.specs.declared.refusal.PlanRefusal.TheVariants.{NoMemory}
use Rattle.tx_plan.proofs.ByIndex.{bytes_apart}
use Rattle.tx_plan.proofs.NamesBack.{exchange_is_name, figures_are_code}
use Rattle.tx_join.proofs.Found.{kept_next, left_next, drop_next, pairs_before, length_before}
use Rattle.tx_join.proofs.NextDeclared.{exchange_free, code_free, lines_free, group_free}

-- WHERE NOTHING REFUSES

pub out_of_memory : (refusal : Option PlanRefusal) (e : PlanRefusal) → refusal ≡ None
    → (refusal ≡ Some e) ⊎ ((refusal ≡ None) × (e ≡ NoMemory)) → e ≡ NoMemory
out_of_memory refusal e none (inl k) = absurd (let bad : ⊥ = cc in bad)
out_of_memory refusal e none (inr k) = k.1

pub kept_few : {A : Type 0} (s : A → Bool) (xs : List A) → length (filter s xs) ≤ length xs
kept_few s xs = subst (λ n. n ≤ length xs) (sym (length-filter s xs)) (count_by-le-length s xs)

-- THE ENTRIES BEFORE ONE

module _ {A : Type 0} (xs : List A) (i : ℕ) (x : A) (at : slice_get xs i ≡ Some x) where
  split : xs ≡ take i xs ++ x ∷ drop (suc i) xs
  split = sym (take-append-drop i xs) ∙ ap (λ l. take i xs ++ l) (drop_next xs i x at)

  pub room : (n : ℕ) → length xs ≤ n → nat_le n (length (take i xs)) ≡ false
  room n few = length_before (take i xs) x (drop (suc i) xs) n (subst (λ l. length l ≤ n) split few)

  pub room_kept : (s : A → Bool) (n : ℕ) → length xs ≤ n
      → nat_le n (length (filter s (take i xs))) ≡ false
  room_kept s n few = false_from_ne_true (nat_le n (length (filter s (take i xs)))) (λ e.
      let m = leb-true n (length (filter s (take i xs))) e in
      let k = kept_few s (take i xs) in
      let l : length xs ≡ length (take i xs) + suc (length (drop (suc i) xs)) =
      ap length split ∙ length-append (take i xs) (x ∷ drop (suc i) xs) in
      omega (arith, m, k, l, few))

  pub before : (R : A → A → Type 0) → EachPair R xs → AllByRecursion (λ y. R y x) (take i xs)
  before R differ = pairs_before R (take i xs) x (drop (suc i) xs) (subst (EachPair R) split differ)

unlike_all : {A : Type 0} (key : A → List ℕ) (w : List ℕ) (ys : List A)
    → AllByRecursion (λ y. key y ≢ w) ys → list_any (λ y. bytes_eq w (key y)) ys ≡ false
unlike_all key w [] h = refl
unlike_all key w (y ∷ ys) h =
    λ i. bytes_apart w (key y) (λ e. h.0 (sym e)) i || unlike_all key w ys h.1 i

module _ (p : Plan) (ok : IsPlan p) where
  -- EXCHANGES

  abbrev pub exchanges_to : ℕ → Plan
  exchanges_to i = record no_plan { exchanges = take i p.exchanges }

  module _ (now : Plan) (name : List ℕ) (i : ℕ) (l : i < length p.exchanges)
      (is : now ≡ exchanges_to i) (named : name ≡ exchange_name p i) where
    exchange_row : (x : List ℕ) × (slice_get p.exchanges i ≡ Some x)
    exchange_row = entry_at p.exchanges i l

    name_by : name ≡ exchange_row.0
    name_by = named ∙ ap (λ o. option_map_or (λ w. w) o []) exchange_row.1

    pub exchange_fits : first_true (exchange_refusals now name) ≡ None
    exchange_fits =
        let x = exchange_row.0 in
        let at = exchange_row.1 in
        (λ j. first_true (exchange_refusals (is j) (name_by j)))
        ∙ exchange_free (exchanges_to i) x (all_at (λ w. is_name w ≡ true) p.exchanges i x ok.exchanges at)
        (unlike_all (λ w. w) x (take i p.exchanges)
        (before p.exchanges i x at (λ v w. v ≢ w) ok.exchanges_differ))
        (room p.exchanges i x at 256 ok.few_exchanges)

    pub exchange_added : with_exchange now name ≡ exchanges_to (i + 1)
    exchange_added = (λ j. with_exchange (is j) (name_by j))
        ∙ (λ j. record no_plan { exchanges = sym (take_next p.exchanges i exchange_row.0 exchange_row.1) j })

  -- CODES

  abbrev pub codes_to : ℕ → Plan
  codes_to i = record (its_exchanges p) { codes = take i p.codes }

  module _ (now : Plan) (figures home : List ℕ) (i : ℕ) (l : i < length p.codes)
      (is : now ≡ codes_to i) (named : figures ≡ figures_of p i)
      (at_home : home ≡ exchange_name p (home_of p i)) where
    code_row : (c : Code) × (slice_get p.codes i ≡ Some c)
    code_row = entry_at p.codes i l

    figures_by : figures ≡ code_row.0.figures
    figures_by = named ∙ ap (λ o. option_map_or (λ (c : Code). c.figures) o []) code_row.1

    home_by : home ≡ exchange_name p code_row.0.home
    home_by = at_home ∙ ap (λ o. exchange_name p (option_map_or (λ (c : Code). c.home) o 0)) code_row.1

    code_rules : IsCode p code_row.0
    code_rules = all_at (IsCode p) p.codes i code_row.0 ok.codes code_row.1

    pub code_fits : first_true (code_refusals now figures home) ≡ None
    code_fits =
        let c = code_row.0 in
        let at = code_row.1 in
        (λ j. first_true (code_refusals (is j) (figures_by j) (home_by j)))
        ∙ code_free (codes_to i) c.figures (exchange_name p c.home)
        (exchange_is_name p ok c.home code_rules.home) code_rules.figures
        (unlike_all (λ (k : Code). k.figures) c.figures (take i p.codes)
        (before p.codes i c at (λ a b. a.figures ≢ b.figures) ok.codes_differ))
        (exchange_back p ok c.home code_rules.home).there (room p.codes i c at 1100 ok.few_codes)

    pub code_added : with_code now figures home ≡ codes_to (i + 1)
    code_added =
        let c = code_row.0 in
        let back : exchange_at (codes_to i) (exchange_name p c.home) ≡ c.home =
        ap (λ o. unwrap_or o 0) (exchange_back p ok c.home code_rules.home).back in
        (λ j. with_code (is j) (figures_by j) (home_by j))
        ∙ (λ j. record (its_exchanges p) { codes = take i p.codes ++ record c { home = back j } ∷ [] })
        ∙ (λ j. record (its_exchanges p) { codes = sym (take_next p.codes i c code_row.1) j })

  -- RANGES

  abbrev pub ranges_to : ℕ → Plan
  ranges_to i = record (its_codes p) { ranges = take i p.ranges }

  -- two ranges that are separate share no number
  separate : (x y : LineRange) → AreSeparate x y → shares y.code y.low y.high x ≡ false
  separate x y h = false_from_ne_true (shares y.code y.low y.high x) (λ e.
      let a = and_parts (x.code == y.code) _ e in
      let b = and_parts (length x.low == length y.low) (at_most x.low y.high && at_most y.low x.high) a.1 in
      let d = and_parts (at_most x.low y.high) (at_most y.low x.high) b.1 in
      elim (h (eqb-true _ _ a.0) (eqb-true _ _ b.0)) [ inl n ↦ true≢false (sym d.1 ∙ n) | inr n ↦ true≢false (sym d.0 ∙ n) ])

  none_shares : (y : LineRange) (xs : List LineRange) → AllByRecursion (λ x. AreSeparate x y) xs
      → list_any (shares y.code y.low y.high) xs ≡ false
  none_shares y [] h = refl
  none_shares y (x ∷ xs) h = λ i. separate x y h.0 i || none_shares y xs h.1 i

  module _ (now : Plan) (r : LineRange) (figures low high : List ℕ) (i : ℕ)
      (at : slice_get p.ranges i ≡ Some r) (is : now ≡ ranges_to i) (named : figures ≡ figures_of p r.code)
      (low_is : low ≡ r.low) (high_is : high ≡ r.high) where
    range_rules : IsRange p r
    range_rules = all_at (IsRange p) p.ranges i r ok.ranges at

    pub range_fits : first_true (lines_refusals now figures low high) ≡ None
    range_fits =
        let own = range_rules in
        let back = code_back p ok r.code own.code in
        (λ j. first_true (lines_refusals (is j) (named j) (low_is j) (high_is j)))
        ∙ lines_free (ranges_to i) (figures_of p r.code) r.low r.high (figures_are_code p ok r.code own.code)
        own.low own.high back.there
        (and_from (length r.low == length r.high) (at_most r.low r.high) (eq-eqb (length r.low) (length r.high) own.width) own.order)
        (ap (λ o. overlaps (ranges_to i) o r.low r.high) back.back
        ∙ none_shares r (take i p.ranges) (before p.ranges i r at AreSeparate ok.ranges_apart))
        (room p.ranges i r at 4096 ok.few_ranges)

    pub range_added : with_lines now figures low high ≡ ranges_to (i + 1)
    range_added =
        let back : code_at (ranges_to i) (figures_of p r.code) ≡ r.code =
        ap (λ o. unwrap_or o 0) (code_back p ok r.code range_rules.code).back in
        (λ j. with_lines (is j) (named j) (low_is j) (high_is j))
        ∙ (λ j. record (its_codes p) { ranges = take i p.ranges ++ record r { code = back j } ∷ [] })
        ∙ (λ j. record (its_codes p) { ranges = sym (take_next p.ranges i r at) j })

  -- GROUPS

  in_range_count : (c : ℕ) → 1 ≤ c → c ≤ 240 → (nat_le 1 c && nat_le c 240) ≡ true
  in_range_count c a b = and_from (nat_le 1 c) (nat_le c 240) (grind (arith, nat_tests)) (grind (arith, nat_tests))

  module _ (down : List ℕ) where
    abbrev pub is_up : Group → Bool
    is_up g = not (is_one_of p down g.name)

    abbrev pub groups_to : ℕ → Plan
    groups_to i = record (its_ranges p) { groups = filter is_up (take i p.groups) }

    module _ (now : Plan) (name : List ℕ) (i : ℕ) (l : i < length p.groups) (is : now ≡ groups_to i)
        (named : name ≡ group_name p i) where
      group_row : (g : Group) × (slice_get p.groups i ≡ Some g)
      group_row = entry_at p.groups i l

      group_by : name ≡ group_row.0.name
      group_by = named ∙ ap (λ o. option_map_or (λ (g : Group). g.name) o []) group_row.1

      group_test : is_one_of p down name ≡ is_one_of p down group_row.0.name
      group_test = ap (is_one_of p down) group_by

      pub group_left : is_one_of p down name ≡ true → now ≡ groups_to (i + 1)
      group_left h = is ∙ (λ j. record (its_ranges p) {
        groups = sym (left_next is_up p.groups i group_row.0 group_row.1 (ap not (sym group_test ∙ h))) j;
      })

      module _ (a b : List ℕ) (direction : Direction) (count : ℕ)
          (first : a ≡ exchange_name p (ends_of p i).0) (second : b ≡ exchange_name p (ends_of p i).1)
          (way : direction ≡ direction_of p i) (many : count ≡ count_of p i) where
        first_by : a ≡ exchange_name p group_row.0.a
        first_by = first ∙ ap (λ o. exchange_name p (option_map_or {U = ℕ × ℕ} (λ (g : Group). (g.a, g.b)) o (0, 0)).0) group_row.1

        second_by : b ≡ exchange_name p group_row.0.b
        second_by = second ∙ ap (λ o. exchange_name p (option_map_or {U = ℕ × ℕ} (λ (g : Group). (g.a, g.b)) o (0, 0)).1) group_row.1

        way_by : direction ≡ group_row.0.direction
        way_by = way ∙ ap (λ o. option_map_or (λ (g : Group). g.direction) o OneWay) group_row.1

        many_by : count ≡ group_row.0.count
        many_by = many ∙ ap (λ o. option_map_or (λ (g : Group). g.count) o 0) group_row.1

        group_rules : IsGroup p group_row.0
        group_rules = all_at (IsGroup p) p.groups i group_row.0 ok.groups group_row.1

        pub group_fits : first_true (group_refusals now name a b count) ≡ None
        group_fits =
            let g = group_row.0 in
            let at = group_row.1 in
            let own = group_rules in
            let here = exchange_back p ok g.a own.first in
            let there = exchange_back p ok g.b own.second in
            (λ j. first_true (group_refusals (is j) (group_by j) (first_by j) (second_by j) (many_by j)))
            ∙ group_free (groups_to i) g.name (exchange_name p g.a) (exchange_name p g.b) g.count own.name
            (exchange_is_name p ok g.a own.first) (exchange_is_name p ok g.b own.second)
            (in_range_count g.count own.some own.few)
            (unlike_all (λ (k : Group). k.name) g.name (filter is_up (take i p.groups))
            (all_kept (λ (k : Group). k.name ≢ g.name) is_up (take i p.groups)
            (before p.groups i g at (λ k h. k.name ≢ h.name) ok.groups_differ)))
            here.there there.there
            (bytes_apart (exchange_name p g.a) (exchange_name p g.b) (λ e. own.ends_differ (same_Some _ _
            (sym here.back ∙ ap (exchange_named p) e ∙ there.back))))
            (room_kept p.groups i g at is_up 4096 ok.few_groups)

        pub group_added : is_one_of p down name ≡ false
            → with_group now name a b direction count ≡ groups_to (i + 1)
        group_added h =
            let g = group_row.0 in
            let own = group_rules in
            let one : exchange_at (groups_to i) (exchange_name p g.a) ≡ g.a =
            ap (λ o. unwrap_or o 0) (exchange_back p ok g.a own.first).back in
            let other : exchange_at (groups_to i) (exchange_name p g.b) ≡ g.b =
            ap (λ o. unwrap_or o 0) (exchange_back p ok g.b own.second).back in
            (λ j. with_group (is j) (group_by j) (first_by j) (second_by j) (way_by j) (many_by j))
            ∙ (λ j. record (its_ranges p) {
              groups = filter is_up (take i p.groups) ++ record g { a = one j; b = other j } ∷ [];
            })
            ∙ (λ j. record (its_ranges p) {
              groups = sym (kept_next is_up p.groups i g group_row.1 (ap not (sym group_test ∙ h))) j;
            })
