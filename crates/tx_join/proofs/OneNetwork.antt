-- Plans of one network are their own joined plans.
use Rattle.tx_join.proofs.Common.{◌≡◌, ℕ, ◌-◌, ◌<◌, ◌≤◌, true, false, not, ◌||◌, nat_lt, List, [], ◌++◌, length, map, max, Option, Some, None, unwrap_or, refl, sym, ap, ◌∙◌, subst, arith, append-nil, find, filter, flat_map, range_with_len, option_map, option_map_or, option_or, and_from, lt-ltb, nat_tests, slice_get_within, Pair, Direction, OneWay, BothWay, Plan, Code, Group, Route, group_named, exchange_name, figures_of, group_name, home_of, IsPlan, IsRoute, IsBar, ends_of, direction_of, count_of, may_seize, has_exchange, has_code, has_group, rerouted, all_map, exchange_back, code_back, group_back, OtherHome, OtherGroup, TooMany, joined_network, joined_code, joined_group, widened, circuits_named, exchange_in, code_in, group_in, has_both, route_in, bar_in, bars_of_code, bars_from, shared_bars, routes_over, bars_over, plan_over, is_same_exchange, is_same_direction, is_same_group, has_other_home, has_other_group, has_too_many, refused_if, join_refusal}
use Rattle.tx_plan.specs.Mixtures.{SameNetwork}
use Rattle.tx_plan.proofs.Networks.{rerouted-is}
use Rattle.tx_join.specs.Laws.{AreOwnJoined}
use Rattle.tx_join.proofs.Found.{all_of, filter_all, filter_none, map_same, find_fails, range_all}
use Rattle.tx_join.proofs.NoDifference.{no_difference}
use Rattle.tx_join.proofs.Taking.{seized}
use Rattle.tx_join.proofs.United.{itself}

-- A PLAN AND ITSELF, WITH OTHER ROUTES AND BARS

module _ (p : Plan) (ok : IsPlan p) where
  -- each name is there
  exchanges_known : filter (λ x. not (has_exchange p x)) p.exchanges ≡ []
  exchanges_known = filter_none (λ x. not (has_exchange p x)) p.exchanges (all_of (λ x. not (has_exchange p x) ≡ false) p.exchanges (λ i x e.
      ap (λ w. not (has_exchange p w)) (sym (ap (λ o. option_map_or (λ name. name) o []) e)) ∙ ap not (exchange_back p ok i (slice_get_within p.exchanges i x e)).there))

  codes_known : filter (λ (c : Code). not (has_code p c.figures)) p.codes ≡ []
  codes_known = filter_none (λ (c : Code). not (has_code p c.figures)) p.codes (all_of (λ (c : Code). not (has_code p c.figures) ≡ false) p.codes (λ i x e.
      ap (λ w. not (has_code p w)) (sym (ap (λ (o : Option Code). option_map_or (λ (c : Code). c.figures) o []) e)) ∙ ap not (code_back p ok i (slice_get_within p.codes i x e)).there))

  groups_known : filter (λ (g : Group). not (has_group p g.name)) p.groups ≡ []
  groups_known = filter_none (λ (g : Group). not (has_group p g.name)) p.groups (all_of (λ (g : Group). not (has_group p g.name) ≡ false) p.groups (λ i x e.
      ap (λ w. not (has_group p w)) (sym (ap (λ (o : Option Group). option_map_or (λ (g : Group). g.name) o []) e)) ∙ ap not (group_back p ok i (slice_get_within p.groups i x e)).there))

  -- no group is widened
  none_widened : map (widened p) p.groups ≡ p.groups
  none_widened = map_same (widened p) p.groups (all_of (λ g. widened p g ≡ g) p.groups (λ i g e.
      let name : group_name p i ≡ g.name = ap (λ (o : Option Group). option_map_or (λ (g : Group). g.name) o []) e in
      let back : group_named p g.name ≡ Some i = ap (group_named p) (sym name) ∙ (group_back p ok i (slice_get_within p.groups i g e)).back in
      let count : circuits_named p g.name ≡ g.count = ap (λ o. option_map_or (count_of p) o 0) back ∙ ap (λ (o : Option Group). option_map_or (λ (g : Group). g.count) o 0) e in
      let same : max g.count (circuits_named p g.name) ≡ g.count = omega (arith, count) in
      λ j. record { name = g.name; a = g.a; b = g.b; direction = g.direction; count = same j }))

  -- ITS INDEXES

  exchange_same : (x : ℕ) → x < length p.exchanges → exchange_in p p x ≡ x
  exchange_same x l = ap (λ o. unwrap_or o 0) (exchange_back p ok x l).back

  code_same : (c : ℕ) → c < length p.codes → code_in p p c ≡ c
  code_same c l = ap (λ o. unwrap_or o 0) (code_back p ok c l).back

  group_same : (g : ℕ) → g < length p.groups → group_in p p g ≡ g
  group_same g l = ap (λ o. unwrap_or o 0) (group_back p ok g l).back

  both_known : (x c : ℕ) → x < length p.exchanges → c < length p.codes → not (has_both p p x c) ≡ false
  both_known x c l m = ap not (and_from (has_exchange p (exchange_name p x)) (has_code p (figures_of p c)) (exchange_back p ok x l).there (code_back p ok c m).there)

  -- ANOTHER PLAN OF ITS NETWORK
  module _ (routes : List Route) (bars : List Pair) where
    abbrev other : Plan
    other = rerouted p routes bars

    pub own_network : joined_network p other ≡ rerouted p [] []
    own_network = λ i. record { exchanges = xs i; codes = cs i; ranges = p.ranges; groups = gs i; routes = []; bars = [] }
      where
        xs : (joined_network p other).exchanges ≡ p.exchanges
        xs = ap (λ l. p.exchanges ++ l) exchanges_known ∙ append-nil p.exchanges

        cs : (joined_network p other).codes ≡ p.codes
        cs = ap (λ l. p.codes ++ map (joined_code p other) l) codes_known ∙ append-nil p.codes

        gs : (joined_network p other).groups ≡ p.groups
        gs = ap (λ l. map (widened p) p.groups ++ map (joined_group p other) l) groups_known ∙ append-nil (map (widened p) p.groups) ∙ none_widened

    -- NOTHING REFUSES
    same_way : (d : Direction) → is_same_direction d d ≡ true
    same_way OneWay = refl
    same_way BothWay = refl

    one_home : (c : ℕ) → c < length p.codes → has_other_home p other c ≡ false
    one_home c l = ap (λ o. option_map_or (λ d. not (is_same_exchange p other (home_of p d) (home_of other c))) o false) (code_back p ok c l).back ∙ ap not (itself (exchange_name p (home_of p c)))

    one_group : (g : ℕ) → g < length p.groups → has_other_group p other g ≡ false
    one_group g l = ap (λ o. option_map_or (λ h. not (is_same_group p other h g)) o false) (group_back p ok g l).back
        ∙ ap not (and_from (is_same_exchange p other (ends_of p g).0 (ends_of other g).0) _ (itself (exchange_name p (ends_of p g).0))
        (and_from (is_same_exchange p other (ends_of p g).1 (ends_of other g).1) (is_same_direction (direction_of p g) (direction_of other g)) (itself (exchange_name p (ends_of p g).1)) (same_way (direction_of p g))))

    not_more : (m n : ℕ) → n ≤ m → nat_lt m n ≡ false
    not_more m n h = grind (arith, nat_tests)

    few : has_too_many (rerouted p [] []) ≡ false
    few = (λ i. not_more 256 (length p.exchanges) ok.few_exchanges i || (not_more 1100 (length p.codes) ok.few_codes i || not_more 4096 (length p.groups) ok.few_groups i))

    pub unrefused : join_refusal p other ≡ None
    unrefused =
        ap (λ o. option_or (option_map OtherHome o) (option_or (option_map OtherGroup (find (has_other_group p other) (range_with_len 0 (length p.groups)))) (refused_if (has_too_many (joined_network p other)) TooMany)))
        (find_fails (has_other_home p other) (range_with_len 0 (length p.codes)) (range_all (λ c. has_other_home p other c ≡ false) 0 (length p.codes) (λ c l m. one_home c (omega (arith, m)))))
        ∙ ap (λ o. option_or (option_map OtherGroup o) (refused_if (has_too_many (joined_network p other)) TooMany))
        (find_fails (has_other_group p other) (range_with_len 0 (length p.groups)) (range_all (λ g. has_other_group p other g ≡ false) 0 (length p.groups) (λ g l m. one_group g (omega (arith, m)))))
        ∙ ap (λ j. refused_if (has_too_many j) TooMany) own_network
        ∙ ap (λ b. refused_if b TooMany) few

-- TWO PLANS OF A NETWORK, ONE OVER THE OTHER

module _ (p : Plan) (routes others : List Route) (bars bans : List Pair) (ok : IsPlan (rerouted p routes bars)) (other_ok : IsPlan (rerouted p others bans)) where
  abbrev own : Plan
  own = rerouted p routes bars

  abbrev other_plan : Plan
  other_plan = rerouted p others bans

  abbrev bare : Plan
  bare = rerouted p [] []

  seized_within : (g x : ℕ) → may_seize own g x ≡ true → g < length p.groups
  seized_within g x h = let s = seized own g x h in slice_get_within p.groups g s.row s.at

  same_route : (r : Route) → IsRoute own r → route_in bare own r ≡ r
  same_route r h =
      let gs : map (group_in bare own) r.groups ≡ r.groups = map_same (group_in own own) r.groups (all_map r.groups (λ g k. group_same own ok g (seized_within g r.exchange k)) h.outgoing) in
      λ i. record { exchange = exchange_same own ok r.exchange h.exchange i; code = code_same own ok r.code h.code i; groups = gs i }

  same_bar : (b : Pair) → IsBar own b → bar_in bare own b ≡ b
  same_bar b h = λ i. record { exchange = exchange_same own ok b.exchange h.exchange i; code = code_same own ok b.code h.code i }

  own_routes : routes_over bare own other_plan ≡ routes
  own_routes =
      let none : filter (λ (r : Route). not (has_both own other_plan r.exchange r.code)) others ≡ [] =
      filter_none (λ (r : Route). not (has_both own other_plan r.exchange r.code)) others (all_map others (λ r h. both_known own ok r.exchange r.code h.exchange h.code) other_ok.routes) in
      ap (λ l. map (route_in bare own) routes ++ map (route_in bare other_plan) l) none ∙ append-nil (map (route_in bare own) routes)
      ∙ map_same (route_in bare own) routes (all_map routes same_route ok.routes)

  own_shared : shared_bars bare own other_plan ≡ bars
  own_shared =
      let none : filter (λ (b : Pair). not (has_both own other_plan b.exchange b.code)) bans ≡ [] =
      filter_none (λ (b : Pair). not (has_both own other_plan b.exchange b.code)) bans (all_map bans (λ b h. both_known own ok b.exchange b.code h.exchange h.code) other_ok.bars) in
      ap (λ l. map (bar_in bare own) bars ++ map (bar_in bare other_plan) l) none ∙ append-nil (map (bar_in bare own) bars)
      ∙ map_same (bar_in bare own) bars (all_map bars same_bar ok.bars)

  own_bars : bars_over bare own other_plan (length p.codes) ≡ bars
  own_bars =
      let n = length p.codes in
      let none : n - n ≡ 0 = omega arith in
      ap (λ l. filter (λ (b : Pair). nat_lt b.code n) l ++ bars_from bare n) own_shared
      ∙ ap (λ k. filter (λ (b : Pair). nat_lt b.code n) bars ++ flat_map (bars_of_code bare) (range_with_len n k)) none
      ∙ append-nil (filter (λ (b : Pair). nat_lt b.code n) bars)
      ∙ filter_all (λ (b : Pair). nat_lt b.code n) bars (all_map bars (λ b h. lt-ltb b.code n h.code) ok.bars)

  pub stays : plan_over bare own other_plan (length p.codes) ≡ own
  stays = λ i. rerouted p (own_routes i) (own_bars i)

-- PLANS OF ONE NETWORK

own_joined : (p : Plan) (routes : List Route) (bars : List Pair) → IsPlan p → IsPlan (rerouted p routes bars) → AreOwnJoined p (rerouted p routes bars)
own_joined p routes bars ok other_ok = record {
  none = unrefused p ok routes bars;
  before = ap (λ j. plan_over j p (rerouted p routes bars) (length p.codes)) (own_network p ok routes bars) ∙ stays p p.routes routes p.bars bars ok other_ok;
  after = ap (λ j. plan_over j (rerouted p routes bars) p (length p.codes)) (own_network p ok routes bars) ∙ stays p routes p.routes bars p.bars other_ok ok;
  nothing = no_difference p ok routes bars;
}

pub one_network : (old new : Plan) → IsPlan old → IsPlan new → SameNetwork old new → AreOwnJoined old new
one_network old new ok new_ok same =
    let e = rerouted-is old new same in
    subst (AreOwnJoined old) e (own_joined old new.routes new.bars ok (subst IsPlan (sym e) new_ok))
