-- The next entry of a plan that is declared: nothing but lack of memory refuses it.
use Rattle.std.proofs.Common.{◌≡◌, ◌≢◌, ℕ, suc, ◌+◌, ◌≤◌, Bool, true, false, not, ◌||◌, ◌&&◌, ◌==◌, nat_le, max, List, [], ◌∷◌, ◌++◌, length, map, take, drop, Option, Some, None, Result, Ok, Err, inl, inr, refl, sym, ap, ◌∙◌, subst, arith, append_assoc, append-nil, eq-eqb, eqb-true, is_some}
use Rattle.tx_join.proofs.Common.{same_Some, list_any, AllByRecursion, bytes_eq, nat_tests, map-append, take-append-drop, list_any-append, or-false, is_name, LineRange, Plan, Code, Group, exchange_named, code_named, exchange_name, figures_of, all_kept, all_map, all_mapped, placed, code_in, circuits_named}
use Rattle.std.specs.Prelude.{filter, slice_get, if◌then◌else◌, IsOk}
use Rattle.std.proofs.lemmas.Bool.{and_from, and_parts, not_from_true, false_from_ne_true, true≢false, false≢true}
use Rattle.tx_plan.specs.declared.refusal.PlanRefusal.{PlanRefusal}
use Rattle.tx_plan.specs.Rules.{IsPlan, IsCode, IsRange, IsGroup, EachPair, AreSeparate}
use Rattle.tx_plan.specs.Numbers.{is_code, is_national, at_most, shares}
use Rattle.tx_plan.specs.Declaring.{Declares, first_true, exchange_refusals, code_refusals, lines_refusals, group_refusals, with_exchange, with_code, with_lines, with_group, has_exchange, has_code, has_group, overlaps, is_ordered}
use Rattle.tx_plan.proofs.ByIndex.{bytes_apart, all_at}
use Rattle.tx_plan.proofs.NamesBack.{exchange_is_name, exchange_back, figures_are_code}
use Rattle.tx_join.specs.inner.Declared.{with_exchanges, known_code, with_codes, known_range, with_ranges, known_group, with_groups, KnowsExchanges, KnowsCodes, IsTaken}
use Rattle.tx_join.proofs.Found.{kept_next, left_next, kept_at, drop_next, pairs_before, middle, length_before, taken_last, find_fails, any_find, filter_all, map_same}

-- WHERE NOTHING REFUSES

module _ (refusal : Option PlanRefusal) (old next new : Plan) where
  pub is_taken : (r : Result (Unit {0}) PlanRefusal) → refusal ≡ None → Declares refusal old next new r → IsTaken r
  is_taken (Ok x) e h = tt
  is_taken (Err f) e (s, inl k) = absurd (let bad : ⊥ = cc in bad)
  is_taken (Err f) e (s, inr k) = subst (λ (g : PlanRefusal). IsTaken (Err g)) (sym k.1) tt

  pub taken_next : (r : Result (Unit {0}) PlanRefusal) → IsOk r → Declares refusal old next new r → new ≡ next
  taken_next (Ok x) k h = h.1
  taken_next (Err f) k h = absurd (false≢true k)

-- an entry that is there
pub not_none : {A : Type 0} (o : Option A) (r : A) → o ≡ Some r → None ≡ o → ⊥
not_none o r e h = let bad : ⊥ = cc in bad

-- none of some tests is passed
on : {R : Type 0} (b : Bool) (r : R) (ts : List (Bool × R)) → b ≡ false → first_true ((b, r) ∷ ts) ≡ first_true ts
on b r ts e = ap (λ c. if c then Some r else first_true ts) e

none_true : {R : Type 0} (ts : List (Bool × R)) → AllByRecursion (λ t. t.0 ≡ false) ts → first_true ts ≡ None
none_true [] h = refl
none_true (t ∷ ts) h = on t.0 t.1 ts h.0 ∙ none_true ts h.1

both_right : (a b : Bool) → a ≡ true → b ≡ true → (not a || not b) ≡ false
both_right a b e f = λ i. not (e i) || not (f i)

pub exchange_free : (p : Plan) (name : List ℕ) → is_name name ≡ true → has_exchange p name ≡ false → nat_le 256 (length p.exchanges) ≡ false → first_true (exchange_refusals p name) ≡ None
exchange_free p name a b c = none_true (exchange_refusals p name) (not_from_true (is_name name) a, (b, (c, tt)))

pub code_free : (p : Plan) (code home : List ℕ) → is_name home ≡ true → is_code code ≡ true → has_code p code ≡ false → has_exchange p home ≡ true → nat_le 1100 (length p.codes) ≡ false → first_true (code_refusals p code home) ≡ None
code_free p code home a b c d e =
    none_true (code_refusals p code home) (not_from_true (is_name home) a, (not_from_true (is_code code) b, (c, (not_from_true (has_exchange p home) d, (e, tt)))))

pub lines_free : (p : Plan) (code low high : List ℕ) → is_code code ≡ true → is_national low ≡ true → is_national high ≡ true → has_code p code ≡ true → is_ordered low high ≡ true → overlaps p (code_named p code) low high ≡ false → nat_le 4096 (length p.ranges) ≡ false → first_true (lines_refusals p code low high) ≡ None
lines_free p code low high a b c d e f g =
    none_true (lines_refusals p code low high) (not_from_true (is_code code) a, (both_right (is_national low) (is_national high) b c, (not_from_true (has_code p code) d, (not_from_true (is_ordered low high) e, (f, (g, tt))))))

pub group_free : (p : Plan) (name a b : List ℕ) (count : ℕ) → is_name name ≡ true → is_name a ≡ true → is_name b ≡ true → (nat_le 1 count && nat_le count 240) ≡ true → has_group p name ≡ false → has_exchange p a ≡ true → has_exchange p b ≡ true → bytes_eq a b ≡ false → nat_le 4096 (length p.groups) ≡ false → first_true (group_refusals p name a b count) ≡ None
group_free p name a b count h i j k l m n o q =
    none_true (group_refusals p name a b count) ((λ t. not (h t) || both_right (is_name a) (is_name b) i j t), (not_from_true (nat_le 1 count && nat_le count 240) k, (l, (both_right (has_exchange p a) (has_exchange p b) m n, (o, (q, tt))))))

-- ENTRIES THAT ARE DECLARED ONE AFTER ANOTHER

-- the entries of a list, and those of another that pass, as far as it was looked through
abbrev pub so_far : {A B : Type 0} → List B → (A → Bool) → (A → B) → List A → ℕ → List B
so_far front t f xs i = front ++ map f (filter t (take i xs))

module _ {A B : Type 0} (front : List B) (t : A → Bool) (f : A → B) (xs : List A) (i : ℕ) (x : A) (at : slice_get xs i ≡ Some x) where
  pub grown : t x ≡ true → so_far front t f xs i ++ f x ∷ [] ≡ so_far front t f xs (i + 1)
  grown h = append_assoc front (map f (filter t (take i xs))) (f x ∷ [])
      ∙ ap (λ l. front ++ l) (sym (map-append f (filter t (take i xs)) (x ∷ [])) ∙ ap (map f) (sym (kept_next t xs i x at h)))

  pub passed : t x ≡ false → so_far front t f xs i ≡ so_far front t f xs (i + 1)
  passed h = ap (λ l. front ++ map f l) (sym (left_next t xs i x at h))

  -- the whole list, where the next one is taken
  pub whole : t x ≡ true → front ++ map f (filter t xs) ≡ so_far front t f xs i ++ f x ∷ map f (filter t (drop (suc i) xs))
  whole h = ap (λ l. front ++ map f l) (kept_at t xs i x at h) ∙ ap (λ l. front ++ l) (map-append f (filter t (take i xs)) (x ∷ filter t (drop (suc i) xs)))
      ∙ sym (append_assoc front (map f (filter t (take i xs))) (f x ∷ map f (filter t (drop (suc i) xs))))

-- none of those before has the key of the next one
module _ {A B : Type 0} (key : A → List ℕ) (name : B → List ℕ) (front : List B) (t : A → Bool) (f : A → B) (kept : (a : A) → name (f a) ≡ key a) (xs : List A) (i : ℕ) (x : A) (at : slice_get xs i ≡ Some x) (differ : EachPair (λ a b. key a ≢ key b) xs) where
  abbrev pub is_named : B → Bool
  is_named b = bytes_eq (key x) (name b)

  pub unseen : AllByRecursion (λ a. key a ≢ key x) (take i xs)
  unseen = pairs_before (λ a b. key a ≢ key b) (take i xs) x (drop (suc i) xs) (subst (EachPair (λ a b. key a ≢ key b)) (sym (take-append-drop i xs) ∙ ap (λ l. take i xs ++ l) (drop_next xs i x at)) differ)

  pub known_before : list_any is_named (so_far front t f xs i) ≡ list_any is_named front
  known_before =
      let ys = filter t (take i xs) in
      list_any-append is_named front (map f ys)
      ∙ ap (λ b. list_any is_named front || b) (any_find is_named (map f ys) ∙ ap is_some (find_fails is_named (map f ys) (all_mapped f (λ b. is_named b ≡ false) ys
      (all_map ys (λ a n. ap (bytes_eq (key x)) (kept a) ∙ bytes_apart (key x) (key a) (λ e. n (sym e))) (all_kept (λ a. key a ≢ key x) t (take i xs) unseen)))))
      ∙ or-false (list_any is_named front)

-- EXCHANGES

abbrev pub exchanges_to : (p from : Plan) → ℕ → Plan
exchanges_to p from i = record p { exchanges = so_far p.exchanges (λ x. not (has_exchange p x)) (λ x. x) from.exchanges i }

all_refl : {A : Type 0} (xs : List A) → AllByRecursion (λ x. x ≡ x) xs
all_refl [] = tt
all_refl (x ∷ xs) = (refl, all_refl xs)

module _ (p from : Plan) where
  same_exchanges : (xs : List (List ℕ)) → map (λ x. x) xs ≡ xs
  same_exchanges xs = map_same (λ x. x) xs (all_refl xs)

  pub no_exchange : p ≡ exchanges_to p from 0
  no_exchange = λ i. record p { exchanges = sym (append-nil p.exchanges) i }

  pub all_exchanges : (n : ℕ) → n ≡ length from.exchanges → exchanges_to p from n ≡ with_exchanges p from
  all_exchanges n e = λ i. record p { exchanges = (ap (λ l. p.exchanges ++ l) (same_exchanges (filter (λ x. not (has_exchange p x)) (take n from.exchanges)) ∙ ap (filter (λ x. not (has_exchange p x))) (taken_last from.exchanges n e))) i }

  module _ (from_ok : IsPlan from) (i : ℕ) (x : List ℕ) (at : slice_get from.exchanges i ≡ Some x) where
    exchange_known : has_exchange (exchanges_to p from i) x ≡ has_exchange p x
    exchange_known = known_before (λ w. w) (λ w. w) p.exchanges (λ w. not (has_exchange p w)) (λ w. w) (λ w. refl) from.exchanges i x at from_ok.exchanges_differ

    pub exchange_left : has_exchange (exchanges_to p from i) x ≡ true → exchanges_to p from i ≡ exchanges_to p from (i + 1)
    exchange_left h = λ k. record p { exchanges = passed p.exchanges (λ w. not (has_exchange p w)) (λ w. w) from.exchanges i x at (ap not (sym exchange_known ∙ h)) k }

    module _ (rules : IsPlan (with_exchanges p from)) (h : has_exchange (exchanges_to p from i) x ≡ false) where
      pub exchange_next : with_exchange (exchanges_to p from i) x ≡ exchanges_to p from (i + 1)
      exchange_next = λ k. record p { exchanges = grown p.exchanges (λ w. not (has_exchange p w)) (λ w. w) from.exchanges i x at (ap not (sym exchange_known ∙ h)) k }

      pub exchange_taken : first_true (exchange_refusals (exchanges_to p from i) x) ≡ None
      exchange_taken =
          let t = λ (w : List ℕ). not (has_exchange p w) in
          let whole_list = ap (λ l. p.exchanges ++ l) (sym (same_exchanges (filter t from.exchanges))) ∙ whole p.exchanges t (λ w. w) from.exchanges i x at (ap not (sym exchange_known ∙ h)) in
          exchange_free (exchanges_to p from i) x (all_at (λ w. is_name w ≡ true) from.exchanges i x from_ok.exchanges at) h
          (length_before (so_far p.exchanges t (λ w. w) from.exchanges i) x (map (λ w. w) (filter t (drop (suc i) from.exchanges))) 256 (subst (λ (l : List (List ℕ)). length l ≤ 256) whole_list rules.few_exchanges))

-- CODES

abbrev pub codes_to : (p from : Plan) → ℕ → Plan
codes_to p from i = record p { codes = so_far p.codes (λ c. not (has_code p c.figures)) (known_code p from) from.codes i }

module _ (p from : Plan) where
  pub no_code : p ≡ codes_to p from 0
  no_code = λ i. record p { codes = sym (append-nil p.codes) i }

  pub all_codes : (n : ℕ) → n ≡ length from.codes → codes_to p from n ≡ with_codes p from
  all_codes n e = λ i. record p { codes = (ap (λ l. p.codes ++ map (known_code p from) (filter (λ (c : Code). not (has_code p c.figures)) l)) (taken_last from.codes n e)) i }

  module _ (from_ok : IsPlan from) (i : ℕ) (c : Code) (at : slice_get from.codes i ≡ Some c) where
    code_known : has_code (codes_to p from i) c.figures ≡ has_code p c.figures
    code_known = known_before (λ (k : Code). k.figures) (λ (k : Code). k.figures) p.codes (λ k. not (has_code p k.figures)) (known_code p from) (λ k. refl) from.codes i c at from_ok.codes_differ

    pub code_left : has_code (codes_to p from i) c.figures ≡ true → codes_to p from i ≡ codes_to p from (i + 1)
    code_left h = λ k. record p { codes = passed p.codes (λ (k : Code). not (has_code p k.figures)) (known_code p from) from.codes i c at (ap not (sym code_known ∙ h)) k }

    module _ (rules : IsPlan (with_codes p from)) (knows : KnowsExchanges p from) (h : has_code (codes_to p from i) c.figures ≡ false) where
      pub code_next : with_code (codes_to p from i) c.figures (exchange_name from c.home) ≡ codes_to p from (i + 1)
      code_next = λ k. record p { codes = grown p.codes (λ (k : Code). not (has_code p k.figures)) (known_code p from) from.codes i c at (ap not (sym code_known ∙ h)) k }

      pub code_taken : first_true (code_refusals (codes_to p from i) c.figures (exchange_name from c.home)) ≡ None
      code_taken =
          let r = all_at (IsCode from) from.codes i c from_ok.codes at in
          let t = λ (k : Code). not (has_code p k.figures) in
          code_free (codes_to p from i) c.figures (exchange_name from c.home) (exchange_is_name from from_ok c.home r.home) r.figures h (knows c.home r.home)
          (length_before (so_far p.codes t (known_code p from) from.codes i) (known_code p from c) (map (known_code p from) (filter t (drop (suc i) from.codes))) 1100
          (subst (λ (l : List Code). length l ≤ 1100) (whole p.codes t (known_code p from) from.codes i c at (ap not (sym code_known ∙ h))) rules.few_codes))

-- RANGES

abbrev pub ranges_to : (p from : Plan) → ℕ → Plan
ranges_to p from i = record p { ranges = so_far p.ranges (λ r. true) (known_range p from) from.ranges i }

pub all_true : {A : Type 0} (xs : List A) → AllByRecursion (λ x. true ≡ true) xs
all_true [] = tt
all_true (x ∷ xs) = (refl, all_true xs)

-- two ranges that are separate share no number
separate : (x y : LineRange) → AreSeparate x y → shares y.code y.low y.high x ≡ false
separate x y h = false_from_ne_true (shares y.code y.low y.high x) (λ e.
    let a = and_parts (x.code == y.code) _ e in
    let b = and_parts (length x.low == length y.low) (at_most x.low y.high && at_most y.low x.high) a.1 in
    let d = and_parts (at_most x.low y.high) (at_most y.low x.high) b.1 in
    elim (h (eqb-true _ _ a.0) (eqb-true _ _ b.0)) [ inl n ↦ true≢false (sym d.1 ∙ n) | inr n ↦ true≢false (sym d.0 ∙ n) ])

module _ (p from : Plan) where
  pub no_range : p ≡ ranges_to p from 0
  no_range = λ i. record p { ranges = sym (append-nil p.ranges) i }

  all_ranges_kept : (xs : List LineRange) → filter (λ r. true) xs ≡ xs
  all_ranges_kept xs = filter_all (λ r. true) xs (all_true xs)

  pub all_ranges : (n : ℕ) → n ≡ length from.ranges → ranges_to p from n ≡ with_ranges p from
  all_ranges n e = λ i. record p { ranges = (ap (λ l. p.ranges ++ map (known_range p from) l) (all_ranges_kept (take n from.ranges) ∙ taken_last from.ranges n e)) i }

  module _ (from_ok : IsPlan from) (i : ℕ) (r : LineRange) (at : slice_get from.ranges i ≡ Some r) (rules : IsPlan (with_ranges p from)) (knows : KnowsCodes p from) where
    pub range_next : with_lines (ranges_to p from i) (figures_of from r.code) r.low r.high ≡ ranges_to p from (i + 1)
    range_next = λ k. record p { ranges = grown p.ranges (λ r. true) (known_range p from) from.ranges i r at refl k }

    whole_ranges : p.ranges ++ map (known_range p from) from.ranges ≡ so_far p.ranges (λ r. true) (known_range p from) from.ranges i ++ known_range p from r ∷ map (known_range p from) (filter (λ r. true) (drop (suc i) from.ranges))
    whole_ranges = ap (λ l. p.ranges ++ map (known_range p from) l) (sym (all_ranges_kept from.ranges)) ∙ whole p.ranges (λ r. true) (known_range p from) from.ranges i r at refl

    no_overlap : overlaps (ranges_to p from i) (code_named p (figures_of from r.code)) r.low r.high ≡ false
    no_overlap =
        let own = all_at (IsRange from) from.ranges i r from_ok.ranges at in
        let before = pairs_before AreSeparate (so_far p.ranges (λ r. true) (known_range p from) from.ranges i) (known_range p from r) _ (subst (EachPair AreSeparate) whole_ranges rules.ranges_apart) in
        ap (λ o. overlaps (ranges_to p from i) o r.low r.high) (placed (λ (c : Code). bytes_eq (figures_of from r.code) c.figures) p.codes (knows r.code own.code))
        ∙ any_find (shares (code_in p from r.code) r.low r.high) (ranges_to p from i).ranges
        ∙ ap is_some (find_fails (shares (code_in p from r.code) r.low r.high) (ranges_to p from i).ranges (all_map (ranges_to p from i).ranges (λ x h. separate x (known_range p from r) h) before))

    pub range_taken : first_true (lines_refusals (ranges_to p from i) (figures_of from r.code) r.low r.high) ≡ None
    range_taken =
        let own = all_at (IsRange from) from.ranges i r from_ok.ranges at in
        lines_free (ranges_to p from i) (figures_of from r.code) r.low r.high (figures_are_code from from_ok r.code own.code) own.low own.high (knows r.code own.code)
        (and_from (length r.low == length r.high) (at_most r.low r.high) (eq-eqb (length r.low) (length r.high) own.width) own.order)
        no_overlap
        (length_before (so_far p.ranges (λ r. true) (known_range p from) from.ranges i) (known_range p from r) (map (known_range p from) (filter (λ r. true) (drop (suc i) from.ranges))) 4096 (subst (λ (l : List LineRange). length l ≤ 4096) whole_ranges rules.few_ranges))

-- GROUPS

abbrev pub groups_to : (p from other : Plan) → ℕ → Plan
groups_to p from other i = record p { groups = so_far p.groups (λ g. not (has_group p g.name)) (known_group p from other) from.groups i }

module _ (p from other : Plan) where
  pub no_group : p ≡ groups_to p from other 0
  no_group = λ i. record p { groups = sym (append-nil p.groups) i }

  pub all_groups : (n : ℕ) → n ≡ length from.groups → groups_to p from other n ≡ with_groups p from other
  all_groups n e = λ i. record p { groups = (ap (λ l. p.groups ++ map (known_group p from other) (filter (λ (g : Group). not (has_group p g.name)) l)) (taken_last from.groups n e)) i }

  module _ (from_ok : IsPlan from) (i : ℕ) (g : Group) (at : slice_get from.groups i ≡ Some g) where
    group_known : has_group (groups_to p from other i) g.name ≡ has_group p g.name
    group_known = known_before (λ (k : Group). k.name) (λ (k : Group). k.name) p.groups (λ k. not (has_group p k.name)) (known_group p from other) (λ k. refl) from.groups i g at from_ok.groups_differ

    pub group_left : has_group (groups_to p from other i) g.name ≡ true → groups_to p from other i ≡ groups_to p from other (i + 1)
    group_left h = λ k. record p { groups = passed p.groups (λ (k : Group). not (has_group p k.name)) (known_group p from other) from.groups i g at (ap not (sym group_known ∙ h)) k }

    module _ (rules : IsPlan (with_groups p from other)) (knows : KnowsExchanges p from) (h : has_group (groups_to p from other i) g.name ≡ false) where
      pub group_next : with_group (groups_to p from other i) g.name (exchange_name from g.a) (exchange_name from g.b) g.direction (max g.count (circuits_named other g.name)) ≡ groups_to p from other (i + 1)
      group_next = λ k. record p { groups = grown p.groups (λ (k : Group). not (has_group p k.name)) (known_group p from other) from.groups i g at (ap not (sym group_known ∙ h)) k }

      in_range_count : (c : ℕ) → 1 ≤ c → c ≤ 240 → (nat_le 1 c && nat_le c 240) ≡ true
      in_range_count c a b = and_from (nat_le 1 c) (nat_le c 240) (grind (arith, nat_tests)) (grind (arith, nat_tests))

      pub group_taken : first_true (group_refusals (groups_to p from other i) g.name (exchange_name from g.a) (exchange_name from g.b) (max g.count (circuits_named other g.name))) ≡ None
      group_taken =
          let own = all_at (IsGroup from) from.groups i g from_ok.groups at in
          let t = λ (k : Group). not (has_group p k.name) in
          let f = known_group p from other in
          let whole_list = whole p.groups t f from.groups i g at (ap not (sym group_known ∙ h)) in
          let made = middle (IsGroup (with_groups p from other)) (so_far p.groups t f from.groups i) (f g) (map f (filter t (drop (suc i) from.groups))) (subst (AllByRecursion (IsGroup (with_groups p from other))) whole_list rules.groups) in
          group_free (groups_to p from other i) g.name (exchange_name from g.a) (exchange_name from g.b) (max g.count (circuits_named other g.name)) own.name
          (exchange_is_name from from_ok g.a own.first) (exchange_is_name from from_ok g.b own.second) (in_range_count (max g.count (circuits_named other g.name)) made.some made.few) h (knows g.a own.first) (knows g.b own.second)
          (bytes_apart (exchange_name from g.a) (exchange_name from g.b) (λ e. own.ends_differ (same_Some _ _ (sym (exchange_back from from_ok g.a own.first).back ∙ ap (exchange_named from) e ∙ (exchange_back from from_ok g.b own.second).back))))
          (length_before (so_far p.groups t f from.groups i) (f g) (map f (filter t (drop (suc i) from.groups))) 4096 (subst (λ (l : List Group). length l ≤ 4096) whole_list rules.few_groups))
