-- The routes and bars over the joined network, part by part, and numbers in a row.
use Rattle.tx_join.proofs.Common.{◌≡◌, ◌≢◌, ℕ, zero, suc, ◌+◌, ◌-◌, ◌<◌, ◌≤◌, Bool, true, false, not, cond, ◌==◌, ◌&&◌, nat_lt, List, [], ◌∷◌, ◌++◌, length, map, take, drop, Some, sym, ap, ◌∙◌, subst, arith, append_assoc, append-nil, get_or, find, filter, flat_map, slice_get, list_any, range_with_len, AllByRecursion, option_map_or, slice_get-get_or, filter-append, Pair, Plan, Route, home_of, IsPlan, route_list, all_at, all_map, has_both, route_in, bar_in, bars_of_code, bars_from, routes_over, bars_over, taken_routes, taken_bars, RoutesDiffer, BarsDiffer}
use Rattle.std.proofs.lemmas.List.{map-append, take_more}
use Rattle.std.proofs.lemmas.List.Concat.{flat_map-append}
use Rattle.std.proofs.lemmas.List.FromFn.{length-range_with_len, get_or-map-range_with_len}
use Rattle.tx_plan.proofs.Growing.{seizes_within}
use Rattle.tx_join.proofs.Found.{filter_all, taken_last}
use Rattle.tx_join.proofs.NextDeclared.{all_true, so_far, grown, passed, whole}
use Rattle.tx_join.proofs.NextTaken.{none_before}
use Rattle.tx_join.proofs.Stages.{front_pairs}

-- LISTS OF GROUPS

-- what holds of no groups, and of those of each route, holds of each list
of_list : (P : List ℕ → Type 0) → P [] → (p : Plan) (x c : ℕ) → AllByRecursion (λ r. P r.groups) p.routes → P (route_list p x c)
of_list P none p x c h = found p.routes h
  where
    t : Route → Bool
    t r = (r.exchange == x) && (r.code == c)

    found : (rs : List Route) → AllByRecursion (λ r. P r.groups) rs → P (option_map_or (λ (r : Route). r.groups) (find t rs) [])
    found [] k = none
    found (r ∷ rs) k = by (t r) (found rs k.1)
      where
        by : (b : Bool) → P (option_map_or (λ (r : Route). r.groups) (find t rs) []) → P (option_map_or (λ (r : Route). r.groups) (cond b (Some r) (find t rs)) [])
        by true m = k.0
        by false m = m

-- the list of an exchange has at most 16 groups
pub list_few : (p : Plan) → IsPlan p → (x c : ℕ) → length (route_list p x c) ≤ 16
list_few p ok x c = of_list (λ gs. length gs ≤ 16) (omega arith) p x c (all_map p.routes (λ r h. h.few) ok.routes)

-- and they are groups of the plan
pub list_within : (p : Plan) → IsPlan p → (x c : ℕ) → AllByRecursion (λ g. g < length p.groups) (route_list p x c)
list_within p ok x c = of_list (λ gs. AllByRecursion (λ g. g < length p.groups) gs) tt p x c (all_map p.routes (λ r h. all_map r.groups (λ g s. seizes_within p g r.exchange s) h.outgoing) ok.routes)

-- so are the members of it, one by one
pub member_within : (p : Plan) → IsPlan p → (x c : ℕ) (list : List ℕ) → list ≡ route_list p x c → (i g k : ℕ) → i < length list → g ≡ get_or list i g → k ≡ g → k < length p.groups
member_within p ok x c list e i g k l is same =
    subst (λ n. n < length p.groups) (sym same) (all_at (λ g. g < length p.groups) list i g (subst (λ gs. AllByRecursion (λ g. g < length p.groups) gs) (sym e) (list_within p ok x c)) (slice_get-get_or list i g l ∙ ap Some (sym is)))

-- what a table has at an index
pub table_at : {A : Type 0} (f : ℕ → A) (n i : ℕ) (table : List A) (a : A) → table ≡ map f (range_with_len 0 n) → i < n → a ≡ get_or table i a → a ≡ f i
table_at f n i table a e l is =
    let z : 0 + i ≡ i = omega arith in
    is ∙ ap (λ t. get_or t i a) e ∙ get_or-map-range_with_len f 0 n i i a l z

-- one member more is mapped
pub mapped_next : {A B : Type 0} (f : A → B) (xs : List A) (i : ℕ) (x : A) → i < length xs → x ≡ get_or xs i x → map f (take i xs) ++ f x ∷ [] ≡ map f (take (i + 1) xs)
mapped_next f xs i x l is = sym (ap (map f) (take_more xs i x l ∙ ap (λ z. take i xs ++ z ∷ []) (sym is)) ∙ map-append f (take i xs) (x ∷ []))

-- ROUTES

module _ (j own other : Plan) where
  pub routes_split : routes_over j own other ≡ taken_routes j own own true ++ taken_routes j own other false
  routes_split = ap (λ l. map (route_in j own) l ++ taken_routes j own other false) (sym (filter_all (λ (r : Route). true) own.routes (all_true own.routes)))

  module _ (differ : RoutesDiffer (routes_over j own other)) where
    pub own_routes_differ : RoutesDiffer (taken_routes j own own true)
    own_routes_differ = front_pairs (λ (r q : Route). r.exchange ≡ q.exchange → r.code ≢ q.code) (taken_routes j own own true) (taken_routes j own other false) (subst RoutesDiffer routes_split differ)

    pub all_routes_differ : RoutesDiffer (taken_routes j own own true ++ taken_routes j own other false)
    all_routes_differ = subst RoutesDiffer routes_split differ

  -- BARS
  module _ (n : ℕ) where
    pub bars_split : bars_over j own other n ≡ (taken_bars j own own true n ++ taken_bars j own other false n) ++ bars_from j n
    bars_split =
        let s = λ (b : Pair). nat_lt b.code n in
        ap (λ l. l ++ bars_from j n)
        (filter-append s (map (bar_in j own) own.bars) (map (bar_in j other) (filter (λ b. not (has_both own other b.exchange b.code)) other.bars))
        ∙ ap (λ l. filter s (map (bar_in j own) l) ++ taken_bars j own other false n) (sym (filter_all (λ (b : Pair). true) own.bars (all_true own.bars))))

    module _ (differ : BarsDiffer (bars_over j own other n)) where
      pub all_bars_differ : BarsDiffer ((taken_bars j own own true n ++ taken_bars j own other false n) ++ bars_from j n)
      all_bars_differ = subst BarsDiffer bars_split differ

      pub shared_bars_differ : BarsDiffer (taken_bars j own own true n ++ taken_bars j own other false n)
      shared_bars_differ = front_pairs (λ (b c : Pair). b.exchange ≡ c.exchange → b.code ≢ c.code) (taken_bars j own own true n ++ taken_bars j own other false n) (bars_from j n) all_bars_differ

      pub own_bars_differ : BarsDiffer (taken_bars j own own true n)
      own_bars_differ = front_pairs (λ (b c : Pair). b.exchange ≡ c.exchange → b.code ≢ c.code) (taken_bars j own own true n) (taken_bars j own other false n) shared_bars_differ

-- NUMBERS IN A ROW

pub slice_range : (a n i : ℕ) → i < n → slice_get (range_with_len a n) i ≡ Some (a + i)
slice_range a zero i l = absurd (omega (arith, l))
slice_range a (suc n) zero l = let e : a ≡ a + 0 = omega arith in ap Some e
slice_range a (suc n) (suc i) l = let e : (a + 1) + i ≡ a + suc i = omega arith in slice_range (a + 1) n i (omega (arith, l)) ∙ ap Some e

range_split : (a k m : ℕ) → k < m → (rest : List ℕ) × (range_with_len a m ≡ range_with_len a k ++ (a + k) ∷ rest)
range_split a k zero l = absurd (omega (arith, l))
range_split a zero (suc m) l = let e : a ≡ a + 0 = omega arith in (range_with_len (a + 1) m, ap (λ x. x ∷ range_with_len (a + 1) m) e)
range_split a (suc k) (suc m) l =
    let r = range_split (a + 1) k m (omega (arith, l)) in
    let e : (a + 1) + k ≡ a + suc k = omega arith in
    (r.0, ap (λ ys. a ∷ ys) (r.1 ∙ ap (λ x. range_with_len (a + 1) k ++ x ∷ r.0) e))

range_more : (a k : ℕ) → range_with_len a (k + 1) ≡ range_with_len a k ++ (a + k) ∷ []
range_more a zero = let e : a ≡ a + 0 = omega arith in ap (λ x. x ∷ []) e
range_more a (suc k) =
    let n : suc k + 1 ≡ suc (k + 1) = omega arith in
    let e : (a + 1) + k ≡ a + suc k = omega arith in
    ap (range_with_len a) n ∙ ap (λ ys. a ∷ ys) (range_more (a + 1) k ∙ ap (λ x. range_with_len (a + 1) k ++ x ∷ []) e)

module _ {A : Type 0} (f : ℕ → List A) (n i : ℕ) (l : n ≤ i) where
  here : n + (i - n) ≡ i
  here = omega arith

  -- one number more
  pub rows_next : flat_map f (range_with_len n (i - n)) ++ f i ≡ flat_map f (range_with_len n ((i + 1) - n))
  rows_next =
      let e : (i + 1) - n ≡ (i - n) + 1 = omega arith in
      sym (ap (λ k. flat_map f (range_with_len n k)) e ∙ ap (flat_map f) (range_more n (i - n)) ∙ flat_map-append f (range_with_len n (i - n)) ((n + (i - n)) ∷ [])
      ∙ ap (λ ys. flat_map f (range_with_len n (i - n)) ++ ys) (append-nil (f (n + (i - n)))) ∙ ap (λ x. flat_map f (range_with_len n (i - n)) ++ f x) here)

  -- those up to a number, and the rest
  pub rows_split : (m : ℕ) → i < m → (rest : List A) × (flat_map f (range_with_len n (m - n)) ≡ (flat_map f (range_with_len n (i - n)) ++ f i) ++ rest)
  rows_split m k =
      let r = range_split n (i - n) (m - n) (omega arith) in (
        flat_map f r.0,
        ap (flat_map f) r.1 ∙ flat_map-append f (range_with_len n (i - n)) ((n + (i - n)) ∷ r.0)
            ∙ ap (λ x. flat_map f (range_with_len n (i - n)) ++ (f x ++ flat_map f r.0)) here ∙ sym (append_assoc (flat_map f (range_with_len n (i - n))) (f i) (flat_map f r.0)),
      )

module _ (j : Plan) (front now : List Pair) (n i : ℕ) (l : n ≤ i) (k : i < length j.codes) (is : now ≡ front ++ flat_map (bars_of_code j) (range_with_len n (i - n))) where
  pub code_bars_differ : BarsDiffer (front ++ bars_from j n) → BarsDiffer (now ++ bars_of_code j i)
  code_bars_differ d =
      let before = flat_map (bars_of_code j) (range_with_len n (i - n)) in
      let r = rows_split (bars_of_code j) n i l (length j.codes) k in
      let whole : front ++ bars_from j n ≡ (now ++ bars_of_code j i) ++ r.0 =
      ap (λ ys. front ++ ys) r.1 ∙ sym (append_assoc front (before ++ bars_of_code j i) r.0)
      ∙ ap (λ ys. ys ++ r.0) (sym (append_assoc front before (bars_of_code j i)) ∙ ap (λ ys. ys ++ bars_of_code j i) (sym is)) in
      front_pairs (λ (b c : Pair). b.exchange ≡ c.exchange → b.code ≢ c.code) (now ++ bars_of_code j i) r.0 (subst BarsDiffer whole d)

  pub code_barred : (new : List Pair) → new ≡ now ++ bars_of_code j i → new ≡ front ++ flat_map (bars_of_code j) (range_with_len n ((i + 1) - n))
  code_barred new e = e ∙ ap (λ ys. ys ++ bars_of_code j i) is ∙ append_assoc front (flat_map (bars_of_code j) (range_with_len n (i - n))) (bars_of_code j i)
      ∙ ap (λ ys. front ++ ys) (rows_next (bars_of_code j) n i l)

-- THE BARS OF A CODE

module _ (j : Plan) (code : ℕ) where
  abbrev pub away : ℕ → Bool
  away x = not (home_of j code == x)

  abbrev pub bar_at : ℕ → Pair
  bar_at x = record { exchange = x; code = code }

  abbrev pub xs : List ℕ
  xs = range_with_len 0 (length j.exchanges)

  pub all_barred : (front now : List Pair) (i : ℕ) → i ≡ length j.exchanges → now ≡ so_far front away bar_at xs i → now ≡ front ++ bars_of_code j code
  all_barred front now i e is = is ∙ ap (λ l. front ++ map bar_at (filter away l)) (taken_last xs i (e ∙ sym (length-range_with_len 0 (length j.exchanges))))

  module _ (front now : List Pair) (i : ℕ) (l : i < length j.exchanges) (is : now ≡ so_far front away bar_at xs i) where
    at : slice_get xs i ≡ Some i
    at = let e : 0 + i ≡ i = omega arith in slice_range 0 (length j.exchanges) i l ∙ ap Some e

    pub home_passed : (home_of j code == i) ≡ true → (new : List Pair) → new ≡ now → new ≡ so_far front away bar_at xs (i + 1)
    home_passed h new e = e ∙ is ∙ passed front away bar_at xs i i at (ap not h)

    module _ (h : (home_of j code == i) ≡ false) where
      pub exchange_free : BarsDiffer (front ++ bars_of_code j code) → list_any (λ b. (b.exchange == i) && (b.code == code)) now ≡ false
      exchange_free d = ap (list_any (λ (b : Pair). (b.exchange == i) && (b.code == code))) is
          ∙ none_before (λ (b : Pair). b.exchange) (λ (b : Pair). b.code) (so_far front away bar_at xs i) (bar_at i) (map bar_at (filter away (drop (suc i) xs))) (subst BarsDiffer (whole front away bar_at xs i i at (ap not h)) d)

      pub exchange_barred : (new : List Pair) → new ≡ now ++ bar_at i ∷ [] → new ≡ so_far front away bar_at xs (i + 1)
      exchange_barred new e = e ∙ ap (λ l. l ++ bar_at i ∷ []) is ∙ grown front away bar_at xs i i at (ap not h)
