-- The lines of routes and bars declare them.
use Rattle.tx_plantext.proofs.Common.{◌≡◌, ◌≢◌, ℕ, zero, suc, ◌<◌, ◌==◌, true, false, not, ◌&&◌, List, [], ◌∷◌, ◌++◌, map, length, Some, None, codes, refl, sym, ap, subst, arith, inl, inr, option_map_or, bytes_eq, is_name, IsShortWord, name_word, figures_word, line_of_short, fixed_word, Pair, is_barred, route_words, bar_words, bytes_apart}
use Rattle.std.specs.List.{AllByRecursion, list_any, slice_get}
use Rattle.std.proofs.lemmas.Bool.{and_from, and_left, and_right, or_from, not_from_true, not_from_false, le-ltb, ne_eqb, cases_eq}
use Rattle.tx_plan.specs.Plan.{Plan, Group, Route, group_named, exchange_name, figures_of, group_name, home_of}
use Rattle.tx_plan.specs.Circuits.{may_seize, may_seize_row}
use Rattle.tx_plan.specs.Rules.{IsPlan, EachPair, IsRoute, IsBar}
use Rattle.tx_plan.specs.Declaring.{first_true, route_refusals, bar_refusals, has_group, has_route, pair_named, is_not_outgoing, none_twice, group_at, with_route, with_bar}
use Rattle.tx_plantext.specs.PlanText.{declare}
use Rattle.tx_plantext.proofs.Indexes.{all_between, apart_front, all_weaker, none_passes}
use Rattle.tx_plantext.proofs.ListLines.{IsLineOf, none_true, unless-none}
use Rattle.tx_plan.proofs.NamesBack.{exchange_back, exchange_is_name, code_back, figures_are_code, group_back, group_is_name}

length_map : {A B : Type 0} (f : A → B) (xs : List A) → length (map f xs) ≡ length xs
length_map f [] = refl
length_map f (x ∷ xs) = ap suc (length_map f xs)

-- a pair of a list of pairs that differ is not declared before its own line
none_before : {A : Type 0} (exchange code : A → ℕ) (f : List A) (x : A) → AllByRecursion (λ y. exchange y ≡ exchange x → code y ≢ code x) f
    → list_any (λ y. (exchange y == exchange x) && (code y == code x)) f ≡ false
none_before {A} exchange code f x h =
    none_passes (λ y. (exchange y == exchange x) && (code y == code x)) f (all_weaker (λ y. exchange y ≡ exchange x → code y ≢ code x) _ apart f h)
  where
    apart : (y : A) → (exchange y ≡ exchange x → code y ≢ code x) → ((exchange y == exchange x) && (code y == code x)) ≡ false
    apart y k =
        elim (cases_eq (exchange y) (exchange x)) [
          | inr d ↦ and_left (exchange y == exchange x) (code y == code x) (ne_eqb (exchange y) (exchange x) d)
          | inl e ↦ and_right (exchange y == exchange x) (code y == code x) (ne_eqb (code y) (code x) (k e))
        ]

module _ (v : ℕ) (p : Plan) (h : IsPlan p) where
  abbrev pub routes_so_far : List Route → Plan
  routes_so_far xs = record { exchanges = p.exchanges; codes = p.codes; ranges = p.ranges; groups = p.groups; routes = xs; bars = [] }

  abbrev pub bars_so_far : List Pair → Plan
  bars_so_far xs = record { exchanges = p.exchanges; codes = p.codes; ranges = p.ranges; groups = p.groups; routes = p.routes; bars = xs }

  -- the words of an exchange and a code name both
  pair_back : (x c : ℕ) → x < length p.exchanges → c < length p.codes → pair_named p (exchange_name p x) (figures_of p c) ≡ Some (record { exchange = x; code = c })
  pair_back x c l k = let a = (exchange_back p h x l).back in let b = (code_back p h c k).back in rw (a, b) refl

  -- a group that an exchange may seize is one of the plan
  seized_there : (g x : ℕ) → may_seize p g x ≡ true → g < length p.groups
  seized_there g x e = there p.groups g e
    where
      there : (rows : List Group) (i : ℕ) → option_map_or (λ r. may_seize_row r x) (slice_get rows i) false ≡ true → i < length rows
      there [] i k = absurd (let z : ⊥ = cc in z)
      there (r ∷ rows) zero k = omega arith
      there (r ∷ rows) (suc i) k = let t = there rows i k in omega arith

  module _ (x c : ℕ) where
    abbrev Outgoing : List ℕ → Type 0
    Outgoing gs = AllByRecursion (λ g. may_seize p g x ≡ true) gs

    names_are_names : (gs : List ℕ) → Outgoing gs → list_any (λ g. not (is_name g)) (map (group_name p) gs) ≡ false
    names_are_names [] o = refl
    names_are_names (g ∷ gs) o = or_from _ _ (not_from_true _ (group_is_name p h g (seized_there g x o.0))) (names_are_names gs o.1)

    names_known : (gs : List ℕ) → Outgoing gs → list_any (λ g. not (has_group p g)) (map (group_name p) gs) ≡ false
    names_known [] o = refl
    names_known (g ∷ gs) o = or_from _ _ (not_from_true _ (group_back p h g (seized_there g x o.0)).there) (names_known gs o.1)

    names_outgoing : (gs : List ℕ) → Outgoing gs → list_any (is_not_outgoing p (Some (record { exchange = x; code = c }))) (map (group_name p) gs) ≡ false
    names_outgoing [] o = refl
    names_outgoing (g ∷ gs) o =
        let b = (group_back p h g (seized_there g x o.0)).back in
        or_from _ _ (rw b (not_from_true _ o.0)) (names_outgoing gs o.1)

    groups_back : (gs : List ℕ) → Outgoing gs → map (group_at p) (map (group_name p) gs) ≡ gs
    groups_back [] o = refl
    groups_back (g ∷ gs) o =
        let b = (group_back p h g (seized_there g x o.0)).back in
        let r = groups_back gs o.1 in
        rw (b, r) refl

    other_names : (g : ℕ) (gs : List ℕ) → may_seize p g x ≡ true → Outgoing gs → AllByRecursion (λ k. g ≢ k) gs → list_any (bytes_eq (group_name p g)) (map (group_name p) gs) ≡ false
    other_names g [] e o d = refl
    other_names g (k ∷ gs) e o d =
        let a = (group_back p h g (seized_there g x e)).back in
        let b = (group_back p h k (seized_there k x o.0)).back in
        or_from _ _ (bytes_apart (group_name p g) (group_name p k) (λ s. let t = ap (group_named p) s in d.0 (let z : g ≡ k = cc in z))) (other_names g gs e o.1 d.1)

    names_differ : (gs : List ℕ) → Outgoing gs → EachPair (λ g k. g ≢ k) gs → none_twice (map (group_name p) gs) ≡ true
    names_differ [] o d = refl
    names_differ (g ∷ gs) o d = and_from _ _ (not_from_false _ (other_names g gs o.0 o.1 d.0)) (names_differ gs o.1 d.1)

    short_names : (gs : List ℕ) → Outgoing gs → AllByRecursion IsShortWord (map (group_name p) gs)
    short_names [] o = tt
    short_names (g ∷ gs) o = (name_word (group_name p g) (group_is_name p h g (seized_there g x o.0)), short_names gs o.1)

  -- ---- ROUTE
  route_new : (f : List Route) (x : Route) (b : List Route) → f ++ x ∷ b ≡ p.routes → has_route (routes_so_far f) x.exchange x.code ≡ false
  route_new f x b e =
      none_before (λ r. r.exchange) (λ r. r.code) f x
      (apart_front (λ r q. r.exchange ≡ q.exchange → r.code ≢ q.code) f x b (subst (EachPair (λ (r q : Route). r.exchange ≡ q.exchange → r.code ≢ q.code)) (sym e) h.routes_differ))

  route_allowed : (f : List Route) (x : Route) (b : List Route) → f ++ x ∷ b ≡ p.routes → IsRoute p x
      → first_true (route_refusals (routes_so_far f) (exchange_name p x.exchange) (figures_of p x.code) (map (group_name p) x.groups)) ≡ None
  route_allowed f x b e n =
      let pair = pair_back x.exchange x.code n.exchange n.code in
      let names = map (group_name p) x.groups in
      let l = length_map (group_name p) x.groups in
      let some = n.some in
      let few = n.few in
      none_true (route_refusals (routes_so_far f) (exchange_name p x.exchange) (figures_of p x.code) names) (
        ne_eqb (length names) 0 (omega arith),
        (
          or_from _ _ (not_from_true _ (exchange_is_name p h x.exchange n.exchange)) (names_are_names x.exchange x.code x.groups n.outgoing),
          (
            not_from_true _ (figures_are_code p h x.code n.code),
            (
              rw pair (route_new f x b e),
              (
                rw pair (names_known x.exchange x.code x.groups n.outgoing),
                (
                  rw pair (names_outgoing x.exchange x.code x.groups n.outgoing),
                  (
                    not_from_true _ (names_differ x.exchange x.code x.groups n.outgoing n.differ),
                    (rw pair (ne_eqb (home_of p x.code) x.exchange n.away), (le-ltb 16 (length names) (omega arith), tt)),
                  ),
                ),
              ),
            ),
          ),
        ),
      )

  route_added : (f : List Route) (x : Route) → IsRoute p x
      → with_route (routes_so_far f) (exchange_name p x.exchange) (figures_of p x.code) (map (group_name p) x.groups) ≡ routes_so_far (f ++ x ∷ [])
  route_added f x n =
      let a = (exchange_back p h x.exchange n.exchange).back in
      let c = (code_back p h x.code n.code).back in
      let g = groups_back x.exchange x.code x.groups n.outgoing in
      rw (a, c, g) refl

  pub route_declared : (f : List Route) (x : Route) (b : List Route) → f ++ x ∷ b ≡ p.routes → IsLineOf declare v routes_so_far (route_words p) f x
  unfolding declare
  route_declared f x b e =
      let n = all_between (IsRoute p) f x b (subst (AllByRecursion (IsRoute p)) (sym e) h.routes) in
      let l = length_map (group_name p) x.groups in
      let few = n.few in
      record {
        adds = unless-none _ _ _ (route_allowed f x b e n) (route_added f x n);
        no_end = refl;
        some = omega arith;
        written = line_of_short (route_words p x) (
          fixed_word (codes "ROUTE") refl,
          (
            name_word (exchange_name p x.exchange) (exchange_is_name p h x.exchange n.exchange),
            (figures_word 2 3 (figures_of p x.code) (omega arith) (omega arith) (figures_are_code p h x.code n.code), short_names x.exchange x.code x.groups n.outgoing),
          ),
        ) (omega arith);
      }

  -- ---- BAR
  bar_new : (f : List Pair) (x : Pair) (b : List Pair) → f ++ x ∷ b ≡ p.bars → is_barred (bars_so_far f) x.exchange x.code ≡ false
  bar_new f x b e =
      none_before (λ r. r.exchange) (λ r. r.code) f x
      (apart_front (λ r q. r.exchange ≡ q.exchange → r.code ≢ q.code) f x b (subst (EachPair (λ (r q : Pair). r.exchange ≡ q.exchange → r.code ≢ q.code)) (sym e) h.bars_differ))

  bar_allowed : (f : List Pair) (x : Pair) (b : List Pair) → f ++ x ∷ b ≡ p.bars → IsBar p x → first_true (bar_refusals (bars_so_far f) (exchange_name p x.exchange) (figures_of p x.code)) ≡ None
  bar_allowed f x b e n =
      let pair = pair_back x.exchange x.code n.exchange n.code in
      none_true (bar_refusals (bars_so_far f) (exchange_name p x.exchange) (figures_of p x.code)) (
        not_from_true _ (exchange_is_name p h x.exchange n.exchange),
        (
          not_from_true _ (figures_are_code p h x.code n.code),
          (rw pair (bar_new f x b e), (rw pair refl, (rw pair (ne_eqb (home_of p x.code) x.exchange n.away), tt))),
        ),
      )

  bar_added : (f : List Pair) (x : Pair) → IsBar p x → with_bar (bars_so_far f) (exchange_name p x.exchange) (figures_of p x.code) ≡ bars_so_far (f ++ x ∷ [])
  bar_added f x n =
      let a = (exchange_back p h x.exchange n.exchange).back in
      let c = (code_back p h x.code n.code).back in
      rw (a, c) refl

  pub bar_declared : v ≡ 2 → (f : List Pair) (x : Pair) (b : List Pair) → f ++ x ∷ b ≡ p.bars → IsLineOf declare v bars_so_far (bar_words p) f x
  unfolding declare
  bar_declared two f x b e =
      let n = all_between (IsBar p) f x b (subst (AllByRecursion (IsBar p)) (sym e) h.bars) in
      record {
        adds = rw two (unless-none _ _ _ (bar_allowed f x b e n) (bar_added f x n));
        no_end = refl;
        some = omega arith;
        written = line_of_short (bar_words p x) (
          fixed_word (codes "BAR") refl,
          (
            name_word (exchange_name p x.exchange) (exchange_is_name p h x.exchange n.exchange),
            (figures_word 2 3 (figures_of p x.code) (omega arith) (omega arith) (figures_are_code p h x.code n.code), tt),
          ),
        ) (omega arith);
      }
