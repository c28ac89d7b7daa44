-- Plans over a network that has those of two plans: they obey the rules of a plan, and have their
-- lists and bars.
use Rattle.tx_join.proofs.Common.{◌≡◌, ◌≢◌, ℕ, zero, suc, ◌+◌, ◌-◌, ◌<◌, ◌≤◌, Bool, true, false, not, ◌||◌, ◌&&◌, ◌==◌, nat_lt, List, [], ◌∷◌, ◌++◌, length, map, Option, Some, None, is_some, inl, inr, refl, sym, ap, ◌∙◌, subst, arith, eq-eqb, eqb-true, filter, find, flat_map, list_any, range_with_len, AllByRecursion, option_map, option_map_or, option_or, find-append, list_any-append, or-false, Pair, Plan, Code, Route, exchange_name, figures_of, home_of, IsPlan, IsCode, IsRoute, IsBar, EachPair, route_list, is_barred, has_exchange, has_code, entry_at, all_at, exchange_back, code_back, list_any-map, exchange_in, code_in, group_in, route_in, bar_in, has_both, routes_over, shared_bars, bars_of_code, bars_from, bars_over, plan_over, HasNetwork, RoutesDiffer, BarsDiffer}
use Rattle.std.proofs.lemmas.Bool.{cases_lt, and_parts, and_from, false_from_ne_true, true≢false, not-true, ne_eqb, eqb-false, lt-ltb, ltb-true}
use Rattle.tx_plan.proofs.Filtered.{any_in, any_out, all_kept, all_joined, all_pass, pairs_kept, pairs_joined}
use Rattle.tx_plan.proofs.Lists.{all_map, all_mapped, all_with, same_tests}
use Rattle.tx_join.proofs.Found.{pairs_map, pairs_mapped, find-map, find_same, find_fails, find_kept, any_find, all_flat, any_flat, range_all, range_differ, range_any}
use Rattle.tx_join.proofs.Taking.{exchange_once, code_once, route_rules, bar_rules}

-- an exchange and a code of a plan
pub record IsPair (p : Plan) (x c : ℕ) : Type 0 where
  pub exchange : x < length p.exchanges
  pub code : c < length p.codes

abbrev groups_of : Option Route → List ℕ
groups_of o = option_map_or (λ r. r.groups) o []

or_none : {A : Type 0} (o : Option A) → option_or o None ≡ o
or_none None = refl
or_none (Some x) = refl

some_mapped : {A B : Type 0} (f : A → B) (o : Option A) → is_some (option_map f o) ≡ is_some o
some_mapped f None = refl
some_mapped f (Some x) = refl

pub home_within : (p : Plan) → IsPlan p → (c : ℕ) → c < length p.codes → home_of p c < length p.exchanges
home_within p ok c l =
    let e = entry_at p.codes c l in
    let r = all_at (IsCode p) p.codes c e.0 ok.codes e.1 in
    subst (λ (o : Option Code). option_map_or (λ (r : Code). r.home) o 0 < length p.exchanges) (sym e.1) r.home

-- PAIRS OF TWO PLANS

module _ (j p q : Plan) (ok : IsPlan p) (has_p : HasNetwork j p) (has_q : HasNetwork j q) where
  -- a pair of q that is one of p in j is known to p
  pub known_pair : (x c y d : ℕ) → IsPair p x c → IsPair q y d → exchange_in j p x ≡ exchange_in j q y → code_in j p c ≡ code_in j q d → has_both p q y d ≡ true
  known_pair x c y d h k e f =
      let a : exchange_name p x ≡ exchange_name q y = sym (has_p.exchanges.named x h.exchange) ∙ ap (exchange_name j) e ∙ has_q.exchanges.named y k.exchange in
      let b : figures_of p c ≡ figures_of q d = sym (has_p.codes.named c h.code) ∙ ap (figures_of j) f ∙ has_q.codes.named d k.code in
      and_from (has_exchange p (exchange_name q y)) (has_code p (figures_of q d))
      (ap (has_exchange p) (sym a) ∙ (exchange_back p ok x h.exchange).there) (ap (has_code p) (sym b) ∙ (code_back p ok c h.code).there)

module _ (j p : Plan) (ok : IsPlan p) (has : HasNetwork j p) where
  -- a pair of p in j
  pub known_in : (x c y d : ℕ) → IsPair p x c → y ≡ exchange_in j p x → d ≡ code_in j p c → has_both p j y d ≡ true
  known_in x c y d h e f =
      and_from (has_exchange p (exchange_name j y)) (has_code p (figures_of j d))
      (ap (λ z. has_exchange p (exchange_name j z)) e ∙ ap (has_exchange p) (has.exchanges.named x h.exchange) ∙ (exchange_back p ok x h.exchange).there)
      (ap (λ z. has_code p (figures_of j z)) f ∙ ap (has_code p) (has.codes.named c h.code) ∙ (code_back p ok c h.code).there)

  pub exchange_test : (x y : ℕ) → x < length p.exchanges → y < length p.exchanges → (exchange_in j p x == exchange_in j p y) ≡ (x == y)
  exchange_test x y l m = same_tests (exchange_in j p x == exchange_in j p y) (x == y)
      (λ h. eq-eqb x y (exchange_once j p ok has x y l m (eqb-true _ _ h))) (λ h. eq-eqb _ _ (ap (exchange_in j p) (eqb-true x y h)))

  pub code_test : (c d : ℕ) → c < length p.codes → d < length p.codes → (code_in j p c == code_in j p d) ≡ (c == d)
  code_test c d l m = same_tests (code_in j p c == code_in j p d) (c == d)
      (λ h. eq-eqb c d (code_once j p ok has c d l m (eqb-true _ _ h))) (λ h. eq-eqb _ _ (ap (code_in j p) (eqb-true c d h)))

-- ENTRIES OF TWO PLANS, WITH THEIR PAIRS

module _ {A : Type 0} (exchange code : A → ℕ) where
  abbrev pub at_pair : (x c : ℕ) → A → Bool
  at_pair x c a = (exchange a == x) && (code a == c)

  abbrev pub Apart : A → A → Type 0
  Apart a b = exchange a ≡ exchange b → code a ≢ code b

  -- an entry of a plan
  abbrev pub IsOf : Plan → A → Type 0
  IsOf p a = IsPair p (exchange a) (code a)

  -- what a map makes of the pair of an entry
  pub record Moves (j p : Plan) (f : A → A) : Type 0 where
    pub to_exchange : (a : A) → exchange (f a) ≡ exchange_in j p (exchange a)
    pub to_code : (a : A) → code (f a) ≡ code_in j p (code a)

  -- none of p is for a pair that p does not have
  pub none_own : (j p : Plan) → IsPlan p → HasNetwork j p → (f : A → A) → Moves j p f → (xs : List A) → AllByRecursion (IsOf p) xs → (y d : ℕ) → has_both p j y d ≡ false → find (at_pair y d) (map f xs) ≡ None
  none_own j p ok has f m xs of_p y d none = find_fails (at_pair y d) (map f xs) (all_mapped f (λ z. at_pair y d z ≡ false) xs (all_map xs (λ a k. false_from_ne_true (at_pair y d (f a)) (λ e.
      let t = and_parts (exchange (f a) == y) (code (f a) == d) e in
      true≢false (sym (known_in j p ok has _ _ y d k (sym (eqb-true _ _ t.0) ∙ m.to_exchange a) (sym (eqb-true _ _ t.1) ∙ m.to_code a)) ∙ none))) of_p))

  module _ (j p q : Plan) (ok : IsPlan p) (q_ok : IsPlan q) (has_p : HasNetwork j p) (has_q : HasNetwork j q) (f g : A → A) (mf : Moves j p f) (mg : Moves j q g) (xs ys : List A) (of_p : AllByRecursion (IsOf p) xs) (of_q : AllByRecursion (IsOf q) ys) where
    -- an entry of q is not one of p
    abbrev others : A → Bool
    others b = not (has_both p q (exchange b) (code b))

    abbrev pub over : List A
    over = map f xs ++ map g (filter others ys)

    of_others : AllByRecursion (IsOf q) (filter others ys)
    of_others = all_kept (IsOf q) others ys of_q

    pub over_apart : EachPair Apart xs → EachPair Apart ys → EachPair Apart over
    over_apart dx dy = pairs_joined P Q Apart (map f xs) (map g (filter others ys))
        (pairs_mapped f Apart xs (pairs_map (IsOf p) xs (λ a b h k d e i. d (exchange_once j p ok has_p _ _ h.exchange k.exchange (sym (mf.to_exchange a) ∙ e ∙ mf.to_exchange b)) (code_once j p ok has_p _ _ h.code k.code (sym (mf.to_code a) ∙ i ∙ mf.to_code b))) of_p dx))
        (pairs_mapped g Apart (filter others ys) (pairs_map (IsOf q) (filter others ys) (λ a b h k d e i. d (exchange_once j q q_ok has_q _ _ h.exchange k.exchange (sym (mg.to_exchange a) ∙ e ∙ mg.to_exchange b)) (code_once j q q_ok has_q _ _ h.code k.code (sym (mg.to_code a) ∙ i ∙ mg.to_code b))) of_others (pairs_kept Apart others ys dy)))
        (all_mapped f P xs (all_map xs (λ a h. (a, (h, refl))) of_p))
        (all_mapped g Q (filter others ys) (all_with (filter others ys) (λ a h k. (a, (h, (k, refl)))) of_others (all_pass others ys)))
        (λ z w a b e i.
        let known = known_pair j p q ok has_p has_q _ _ _ _ a.1.0 b.1.0 (sym (mf.to_exchange a.0) ∙ ap exchange (sym a.1.1) ∙ e ∙ ap exchange b.1.1.1 ∙ mg.to_exchange b.0) (sym (mf.to_code a.0) ∙ ap code (sym a.1.1) ∙ i ∙ ap code b.1.1.1 ∙ mg.to_code b.0) in
        true≢false (sym known ∙ not-true _ b.1.1.0))
      where
        P : A → Type 0
        P z = (a : A) × (IsOf p a × (z ≡ f a))

        Q : A → Type 0
        Q z = (b : A) × (IsOf q b × ((others b ≡ true) × (z ≡ g b)))

    -- what is found for a pair of p is what p has
    pub found_own : (x c : ℕ) → IsPair p x c → find (at_pair (exchange_in j p x) (code_in j p c)) over ≡ option_map f (find (at_pair x c) xs)
    found_own x c h =
        let t = at_pair (exchange_in j p x) (code_in j p c) in
        find-append t (map f xs) (map g (filter others ys))
        ∙ ap (option_or (find t (map f xs))) (find_fails t (map g (filter others ys)) (all_mapped g (λ z. t z ≡ false) (filter others ys) (all_with (filter others ys) (λ b k o. false_from_ne_true (t (g b)) (λ e.
        let s = and_parts (exchange (g b) == exchange_in j p x) (code (g b) == code_in j p c) e in
        let known = known_pair j p q ok has_p has_q x c _ _ h k (sym (eqb-true _ _ s.0) ∙ mg.to_exchange b) (sym (eqb-true _ _ s.1) ∙ mg.to_code b) in
        true≢false (sym known ∙ not-true _ o))) of_others (all_pass others ys))))
        ∙ or_none (find t (map f xs))
        ∙ find-map t f xs
        ∙ ap (option_map f) (find_same (λ a. t (f a)) (at_pair x c) xs (all_map xs (λ a k.
        ap (λ z. (z == exchange_in j p x) && (code (f a) == code_in j p c)) (mf.to_exchange a) ∙ ap (λ z. (exchange_in j p (exchange a) == exchange_in j p x) && (z == code_in j p c)) (mf.to_code a)
        ∙ (λ i. exchange_test j p ok has_p (exchange a) x k.exchange h.exchange i && code_test j p ok has_p (code a) c k.code h.code i)) of_p))

    -- for such a pair what is found is what q has
    pub found_other : (y d : ℕ) → has_both p j y d ≡ false → find (at_pair y d) over ≡ find (at_pair y d) (map g ys)
    found_other y d none =
        let t = at_pair y d in
        find-append t (map f xs) (map g (filter others ys))
        ∙ ap (λ o. option_or o (find t (map g (filter others ys)))) (none_own j p ok has_p f mf xs of_p y d none)
        ∙ find-map t g (filter others ys)
        ∙ ap (option_map g) (find_kept (λ b. t (g b)) others ys (all_map ys (λ b k e.
        let s = and_parts (exchange (g b) == y) (code (g b) == d) e in
        let a : exchange_name q (exchange b) ≡ exchange_name j y = sym (has_q.exchanges.named _ k.exchange) ∙ ap (exchange_name j) (sym (mg.to_exchange b) ∙ eqb-true _ _ s.0) in
        let n : figures_of q (code b) ≡ figures_of j d = sym (has_q.codes.named _ k.code) ∙ ap (figures_of j) (sym (mg.to_code b) ∙ eqb-true _ _ s.1) in
        ap not ((λ i. has_exchange p (a i) && has_code p (n i)) ∙ none)) of_q))
        ∙ sym (find-map t g ys)

-- BARS OF NEW CODES

abbrev pair_at : (c x : ℕ) → Pair
pair_at c x = record { exchange = x; code = c }

module _ (j : Plan) where
  -- what holds of a pair away from the home holds of each bar of a code
  pub each_of_code : (P : Pair → Type 0) (c : ℕ) → ((x : ℕ) → x < length j.exchanges → home_of j c ≢ x → P (pair_at c x)) → AllByRecursion P (bars_of_code j c)
  each_of_code P c h =
      let s = λ (x : ℕ). not (home_of j c == x) in
      let xs = range_with_len 0 (length j.exchanges) in
      all_mapped (pair_at c) P (filter s xs)
      (all_with (filter s xs) (λ x l k. h x l (eqb-false (home_of j c) x (not-true _ k)))
      (all_kept (λ x. x < length j.exchanges) s xs (range_all (λ x. x < length j.exchanges) 0 (length j.exchanges) (λ i l m. omega (arith, m)))) (all_pass s xs))

  pub each_from : (P : Pair → Type 0) (n m : ℕ) → ((x c : ℕ) → x < length j.exchanges → n ≤ c → c < n + m → home_of j c ≢ x → P (pair_at c x)) → AllByRecursion P (flat_map (bars_of_code j) (range_with_len n m))
  each_from P n m h = all_flat P (bars_of_code j) (range_with_len n m) (range_all (λ c. AllByRecursion P (bars_of_code j c)) n m (λ c l k. each_of_code P c (λ x i away. h x c i l k away)))

  pub code_apart : (c : ℕ) → BarsDiffer (bars_of_code j c)
  code_apart c =
      let s = λ (x : ℕ). not (home_of j c == x) in
      let xs = range_with_len 0 (length j.exchanges) in
      pairs_mapped (pair_at c) (Apart (λ (b : Pair). b.exchange) (λ (b : Pair). b.code)) (filter s xs)
      (pairs_map {R = λ x y. x ≢ y} (λ (x : ℕ). Unit {0}) (filter s xs) (λ x y u v d e i. d e) (all_unit (filter s xs)) (pairs_kept (λ x y. x ≢ y) s xs (range_differ 0 (length j.exchanges))))
    where
      all_unit : (xs : List ℕ) → AllByRecursion (λ x. Unit {0}) xs
      all_unit [] = tt
      all_unit (x ∷ xs) = (tt, all_unit xs)

  pub from_apart : (n m : ℕ) → BarsDiffer (flat_map (bars_of_code j) (range_with_len n m))
  from_apart n zero = tt
  from_apart n (suc m) = pairs_joined (λ (b : Pair). b.code ≡ n) (λ (b : Pair). n + 1 ≤ b.code) (Apart (λ (b : Pair). b.exchange) (λ (b : Pair). b.code)) (bars_of_code j n) (flat_map (bars_of_code j) (range_with_len (n + 1) m))
      (code_apart n) (from_apart (n + 1) m)
      (each_of_code (λ b. b.code ≡ n) n (λ x l away. refl))
      (each_from (λ b. n + 1 ≤ b.code) (n + 1) m (λ x c l k i away. k))
      (λ b d e h i k. omega (arith, e, h, k))

  -- a pair away from the home is among the bars of its code
  pub any_of_code : (c x : ℕ) → x < length j.exchanges → home_of j c ≢ x → list_any (λ (b : Pair). (b.exchange == x) && (b.code == c)) (bars_of_code j c) ≡ true
  any_of_code c x l away =
      let s = λ (x : ℕ). not (home_of j c == x) in
      let xs = range_with_len 0 (length j.exchanges) in
      let t = λ (y : ℕ). (y == x) && (c == c) in
      list_any-map (λ (b : Pair). (b.exchange == x) && (b.code == c)) (pair_at c) (filter s xs)
      ∙ any_in t s (λ z h. ap (λ y. not (home_of j c == y)) (eqb-true z x (and_parts (z == x) (c == c) h).0) ∙ ap not (ne_eqb (home_of j c) x away)) xs
      ∙ range_any t 0 (length j.exchanges) x (omega arith) (omega (arith, l)) (and_from (x == x) (c == c) (eq-eqb x x refl) (eq-eqb c c refl))

  pub any_from : (n m c x : ℕ) → n ≤ c → c < n + m → x < length j.exchanges → home_of j c ≢ x → list_any (λ (b : Pair). (b.exchange == x) && (b.code == c)) (flat_map (bars_of_code j) (range_with_len n m)) ≡ true
  any_from n m c x l k i away =
      any_flat (λ (b : Pair). (b.exchange == x) && (b.code == c)) (bars_of_code j) (range_with_len n m)
      ∙ range_any (λ d. list_any (λ (b : Pair). (b.exchange == x) && (b.code == c)) (bars_of_code j d)) n m c l k (any_of_code c x i away)

-- A PLAN OVER A NETWORK

route_moves : (j p : Plan) → Moves (λ (r : Route). r.exchange) (λ (r : Route). r.code) j p (route_in j p)
route_moves j p = record { to_exchange = λ r. refl; to_code = λ r. refl }

bar_moves : (j p : Plan) → Moves (λ (b : Pair). b.exchange) (λ (b : Pair). b.code) j p (bar_in j p)
bar_moves j p = record { to_exchange = λ b. refl; to_code = λ b. refl }

routes_of : (p : Plan) → IsPlan p → AllByRecursion (IsOf (λ (r : Route). r.exchange) (λ (r : Route). r.code) p) p.routes
routes_of p ok = all_map p.routes (λ r h. record { exchange = h.exchange; code = h.code }) ok.routes

bars_of : (p : Plan) → IsPlan p → AllByRecursion (IsOf (λ (b : Pair). b.exchange) (λ (b : Pair). b.code) p) p.bars
bars_of p ok = all_map p.bars (λ b h. record { exchange = h.exchange; code = h.code }) ok.bars

module _ (j p q : Plan) (n : ℕ) (ok : IsPlan p) (q_ok : IsPlan q) (has_p : HasNetwork j p) (has_q : HasNetwork j q) where
  pub routes_apart : RoutesDiffer (routes_over j p q)
  routes_apart = over_apart (λ (r : Route). r.exchange) (λ (r : Route). r.code) j p q ok q_ok has_p has_q (route_in j p) (route_in j q) (route_moves j p) (route_moves j q) p.routes q.routes (routes_of p ok) (routes_of q q_ok) ok.routes_differ q_ok.routes_differ

  pub bars_apart : BarsDiffer (bars_over j p q n)
  bars_apart = pairs_joined (λ (b : Pair). nat_lt b.code n ≡ true) (λ (b : Pair). n ≤ b.code) (Apart (λ (b : Pair). b.exchange) (λ (b : Pair). b.code)) (filter (λ (b : Pair). nat_lt b.code n) (shared_bars j p q)) (bars_from j n)
      (pairs_kept (Apart (λ (b : Pair). b.exchange) (λ (b : Pair). b.code)) (λ (b : Pair). nat_lt b.code n) (shared_bars j p q)
      (over_apart (λ (b : Pair). b.exchange) (λ (b : Pair). b.code) j p q ok q_ok has_p has_q (bar_in j p) (bar_in j q) (bar_moves j p) (bar_moves j q) p.bars q.bars (bars_of p ok) (bars_of q q_ok) ok.bars_differ q_ok.bars_differ))
      (from_apart j n (length j.codes - n))
      (all_pass (λ (b : Pair). nat_lt b.code n) (shared_bars j p q))
      (each_from j (λ (b : Pair). n ≤ b.code) n (length j.codes - n) (λ x c l k i away. k))
      (λ b d e h i k. let l = ltb-true b.code n e in omega (arith, l, h, k))

  module _ (j_ok : IsPlan j) where
    abbrev made : Plan
    made = plan_over j p q n

    own_routes : (r : Plan) → IsPlan r → HasNetwork j r → AllByRecursion (λ k. IsRoute made (route_in j r k)) r.routes
    own_routes r r_ok has = all_map r.routes (λ k h. route_rules j r r_ok has (routes_over j p q) (bars_over j p q n) (home_within r r_ok) k h) r_ok.routes

    own_bars : (r : Plan) → IsPlan r → HasNetwork j r → AllByRecursion (λ k. IsBar made (bar_in j r k)) r.bars
    own_bars r r_ok has = all_map r.bars (λ k h. bar_rules j r r_ok has (routes_over j p q) (bars_over j p q n) (home_within r r_ok) k h) r_ok.bars

    pub made_rules : IsPlan made
    made_rules = record {
      exchanges = j_ok.exchanges;
      exchanges_differ = j_ok.exchanges_differ;
      few_exchanges = j_ok.few_exchanges;
      codes = all_map j.codes (λ k h. record { figures = h.figures; home = h.home }) j_ok.codes;
      codes_differ = j_ok.codes_differ;
      few_codes = j_ok.few_codes;
      ranges = all_map j.ranges (λ r h. record { code = h.code; low = h.low; high = h.high; width = h.width; order = h.order }) j_ok.ranges;
      ranges_apart = j_ok.ranges_apart;
      few_ranges = j_ok.few_ranges;
      groups = all_map j.groups (λ g h. record { name = h.name; first = h.first; second = h.second; ends_differ = h.ends_differ; some = h.some; few = h.few }) j_ok.groups;
      groups_differ = j_ok.groups_differ;
      few_groups = j_ok.few_groups;
      routes = all_joined (IsRoute made) (map (route_in j p) p.routes) (map (route_in j q) (filter (λ r. not (has_both p q r.exchange r.code)) q.routes))
          (all_mapped (route_in j p) (IsRoute made) p.routes (own_routes p ok has_p))
          (all_mapped (route_in j q) (IsRoute made) (filter (λ r. not (has_both p q r.exchange r.code)) q.routes) (all_kept (λ r. IsRoute made (route_in j q r)) (λ r. not (has_both p q r.exchange r.code)) q.routes (own_routes q q_ok has_q)));
      routes_differ = routes_apart;
      bars = all_joined (IsBar made) (filter (λ b. nat_lt b.code n) (shared_bars j p q)) (bars_from j n)
          (all_kept (IsBar made) (λ b. nat_lt b.code n) (shared_bars j p q)
          (all_joined (IsBar made) (map (bar_in j p) p.bars) (map (bar_in j q) (filter (λ b. not (has_both p q b.exchange b.code)) q.bars))
          (all_mapped (bar_in j p) (IsBar made) p.bars (own_bars p ok has_p))
          (all_mapped (bar_in j q) (IsBar made) (filter (λ b. not (has_both p q b.exchange b.code)) q.bars) (all_kept (λ b. IsBar made (bar_in j q b)) (λ b. not (has_both p q b.exchange b.code)) q.bars (own_bars q q_ok has_q)))))
          (each_from j (IsBar made) n (length j.codes - n) (λ x c l k i away. let w : c < length j.codes = omega (arith, k, i) in record { exchange = l; code = w; away = away }));
      bars_differ = bars_apart;
    }

  -- ITS LISTS AND BARS

  module _ (x c : ℕ) where
    -- of the pairs that p has it has p's lists
    pub own_list : IsPair p x c → route_list (plan_over j p q n) (exchange_in j p x) (code_in j p c) ≡ map (group_in j p) (route_list p x c)
    own_list h =
        ap groups_of (found_own (λ (r : Route). r.exchange) (λ (r : Route). r.code) j p q ok q_ok has_p has_q (route_in j p) (route_in j q) (route_moves j p) (route_moves j q) p.routes q.routes (routes_of p ok) (routes_of q q_ok) x c h)
        ∙ mapped (find (at_pair (λ (r : Route). r.exchange) (λ (r : Route). r.code) x c) p.routes)
      where
        mapped : (o : Option Route) → groups_of (option_map (route_in j p) o) ≡ map (group_in j p) (groups_of o)
        mapped None = refl
        mapped (Some r) = refl

  abbrev is_bar : (y d : ℕ) → Pair → Bool
  is_bar y d b = (b.exchange == y) && (b.code == d)

  -- whether a pair is barred: the codes before n by the bars of both plans
  pub shared_bar : (y d : ℕ) → d < n → is_barred (plan_over j p q n) y d ≡ is_some (find (is_bar y d) (shared_bars j p q))
  shared_bar y d l =
      let t = is_bar y d in
      let s = λ (b : Pair). nat_lt b.code n in
      list_any-append t (filter s (shared_bars j p q)) (bars_from j n)
      ∙ ap (λ b. list_any t (filter s (shared_bars j p q)) || b)
      (any_find t (bars_from j n) ∙ ap is_some (find_fails t (bars_from j n) (each_from j (λ b. t b ≡ false) n (length j.codes - n) (λ x c i k m away. false_from_ne_true (t (pair_at c x)) (λ e. let f = eqb-true c d (and_parts (x == y) (c == d) e).1 in omega (arith, f, k, l))))))
      ∙ or-false (list_any t (filter s (shared_bars j p q)))
      ∙ any_in t s (λ b e. ap (λ z. nat_lt z n) (eqb-true b.code d (and_parts (b.exchange == y) (b.code == d) e).1) ∙ lt-ltb d n l) (shared_bars j p q)
      ∙ any_find t (shared_bars j p q)

  -- those from n on by the bars of new codes
  pub new_bar : (y d : ℕ) → n ≤ d → is_barred (plan_over j p q n) y d ≡ list_any (is_bar y d) (bars_from j n)
  new_bar y d l =
      let t = is_bar y d in
      let s = λ (b : Pair). nat_lt b.code n in
      list_any-append t (filter s (shared_bars j p q)) (bars_from j n)
      ∙ ap (λ b. b || list_any t (bars_from j n)) (any_out t s (λ b e. false_from_ne_true (s b) (λ k. let f = eqb-true b.code d (and_parts (b.exchange == y) (b.code == d) e).1 in let m = ltb-true b.code n k in omega (arith, f, m, l))) (shared_bars j p q))

  pub own_bar : (x c : ℕ) → IsPair p x c → code_in j p c < n → is_barred (plan_over j p q n) (exchange_in j p x) (code_in j p c) ≡ is_barred p x c
  own_bar x c h l =
      shared_bar (exchange_in j p x) (code_in j p c) l
      ∙ ap is_some (found_own (λ (b : Pair). b.exchange) (λ (b : Pair). b.code) j p q ok q_ok has_p has_q (bar_in j p) (bar_in j q) (bar_moves j p) (bar_moves j q) p.bars q.bars (bars_of p ok) (bars_of q q_ok) x c h)
      ∙ some_mapped (bar_in j p) (find (is_bar x c) p.bars)
      ∙ sym (any_find (is_bar x c) p.bars)

  -- a new code is barred but at home
  pub new_barred : (x c : ℕ) → n ≤ c → x < length j.exchanges → c < length j.codes → home_of j c ≢ x → is_barred (plan_over j p q n) x c ≡ true
  new_barred x c l i k away = new_bar x c l ∙ any_from j n (length j.codes - n) c x l (omega (arith, l, k)) i away

-- what p does not have is the same in both plans
module _ (j p q : Plan) (n : ℕ) (ok : IsPlan p) (q_ok : IsPlan q) (has_p : HasNetwork j p) (has_q : HasNetwork j q) (y d : ℕ) (none : has_both p j y d ≡ false) where
  module _ {A : Type 0} (exchange code : A → ℕ) (f g : A → A) (mf : Moves exchange code j p f) (mg : Moves exchange code j q g) (xs ys : List A) (of_p : AllByRecursion (IsOf exchange code p) xs) (of_q : AllByRecursion (IsOf exchange code q) ys) where
    abbrev s : A → Bool
    s a = not (has_both q p (exchange a) (code a))

    same_found : find (at_pair exchange code y d) (map f xs ++ map g (filter (λ b. not (has_both p q (exchange b) (code b))) ys)) ≡ find (at_pair exchange code y d) (map g ys ++ map f (filter s xs))
    same_found =
        let t = at_pair exchange code y d in
        found_other exchange code j p q ok q_ok has_p has_q f g mf mg xs ys of_p of_q y d none
        ∙ sym (find-append t (map g ys) (map f (filter s xs))
        ∙ ap (option_or (find t (map g ys))) (none_own exchange code j p ok has_p f mf (filter s xs) (all_kept (IsOf exchange code p) s xs of_p) y d none)
        ∙ or_none (find t (map g ys)))

    none_found : has_both q j y d ≡ false → find (at_pair exchange code y d) (map f xs ++ map g (filter (λ b. not (has_both p q (exchange b) (code b))) ys)) ≡ None
    none_found other_none = found_other exchange code j p q ok q_ok has_p has_q f g mf mg xs ys of_p of_q y d none ∙ none_own exchange code j q q_ok has_q g mg ys of_q y d other_none

  pub same_list : route_list (plan_over j p q n) y d ≡ route_list (plan_over j q p n) y d
  same_list = ap groups_of
      (same_found (λ (r : Route). r.exchange) (λ (r : Route). r.code) (route_in j p) (route_in j q) (route_moves j p) (route_moves j q) p.routes q.routes (routes_of p ok) (routes_of q q_ok))

  pub same_bar : is_barred (plan_over j p q n) y d ≡ is_barred (plan_over j q p n) y d
  same_bar = elim (cases_lt d n) [
    | inl l ↦ shared_bar j p q n ok q_ok has_p has_q y d l
        ∙ ap is_some (same_found (λ (b : Pair). b.exchange) (λ (b : Pair). b.code) (bar_in j p) (bar_in j q) (bar_moves j p) (bar_moves j q) p.bars q.bars (bars_of p ok) (bars_of q q_ok))
        ∙ sym (shared_bar j q p n q_ok ok has_q has_p y d l)
    | inr l ↦ new_bar j p q n ok q_ok has_p has_q y d l ∙ sym (new_bar j q p n q_ok ok has_q has_p y d l)
  ]

  -- what q does not have either is not there
  pub no_more : has_both q j y d ≡ false → (route_list (plan_over j p q n) y d ≡ []) × (d < n → is_barred (plan_over j p q n) y d ≡ false)
  no_more other_none = (
    ap groups_of (none_found (λ (r : Route). r.exchange) (λ (r : Route). r.code) (route_in j p) (route_in j q) (route_moves j p) (route_moves j q) p.routes q.routes (routes_of p ok) (routes_of q q_ok) other_none),
    λ l. shared_bar j p q n ok q_ok has_p has_q y d l
        ∙ ap is_some (none_found (λ (b : Pair). b.exchange) (λ (b : Pair). b.code) (bar_in j p) (bar_in j q) (bar_moves j p) (bar_moves j q) p.bars q.bars (bars_of p ok) (bars_of q q_ok) other_none),
  )
