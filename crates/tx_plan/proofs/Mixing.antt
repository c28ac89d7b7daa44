-- The mixture of some new lists and bars is one.
use Rattle.tx_plan.proofs.Common.{◌≡◌, ◌≢◌, ℕ, ◌==◌, Bool, true, false, not, ◌&&◌, List, [], inl, inr, refl, sym, ap, ◌∙◌, subst, eqb-true, true≢false, and_parts, not-true, filter, option_map_or, Pair, Plan, Route, IsRoute, IsBar, IsPlan, route_list, is_barred}
use Rattle.tx_plan.proofs.Lists.{all_map}
use Rattle.tx_plan.specs.Mixtures.{SameNetwork, IsEither, IsMixture}
use Rattle.tx_plan.specs.Mixed.{is_route_there, is_bar_there, mixed, rerouted}
use Rattle.tx_plan.proofs.Networks.{rerouted-is}
use Rattle.tx_plan.proofs.Filtered.{find_out, find_in, find_second, find_first, any_out, any_in, any_second, any_first, all_kept, all_joined, all_pass, pairs_kept, pairs_joined}

module _ (old new : Plan) (c : ℕ) (listed barred : ℕ → Bool) where
  -- THE LISTS AND BARS OF THE MIXTURE
  module _ (x d : ℕ) where
    -- the route of an exchange and a code is one of those there if that pair is
    route_there : (r : Route) → ((r.exchange == x) && (r.code == d)) ≡ true → is_route_there c listed r ≡ ((d == c) && listed x)
    route_there r h =
        let a = and_parts (r.exchange == x) (r.code == d) h in
        let e = eqb-true r.exchange x a.0 in
        let f = eqb-true r.code d a.1 in
        λ i. (f i == c) && listed (e i)

    bar_there : (b : Pair) → ((b.exchange == x) && (b.code == d)) ≡ true → is_bar_there c barred b ≡ ((d == c) && barred x)
    bar_there b h =
        let a = and_parts (b.exchange == x) (b.code == d) h in
        let e = eqb-true b.exchange x a.0 in
        let f = eqb-true b.code d a.1 in
        λ i. (f i == c) && barred (e i)

    pub list_new : ((d == c) && listed x) ≡ true → route_list (mixed old new c listed barred) x d ≡ route_list new x d
    list_new h =
        let t = λ (r : Route). (r.exchange == x) && (r.code == d) in
        ap (λ o. option_map_or (λ (r : Route). r.groups) o [])
        (find_second t _ (filter (is_route_there c listed) new.routes) (find_out t (λ r. not (is_route_there c listed r)) (λ r q. ap not (route_there r q ∙ h)) old.routes)
        ∙ find_in t (is_route_there c listed) (λ r q. route_there r q ∙ h) new.routes)

    pub list_old : ((d == c) && listed x) ≡ false → route_list (mixed old new c listed barred) x d ≡ route_list old x d
    list_old h =
        let t = λ (r : Route). (r.exchange == x) && (r.code == d) in
        ap (λ o. option_map_or (λ (r : Route). r.groups) o [])
        (find_first t (filter (λ r. not (is_route_there c listed r)) old.routes) _ (find_out t (is_route_there c listed) (λ r q. route_there r q ∙ h) new.routes)
        ∙ find_in t (λ r. not (is_route_there c listed r)) (λ r q. ap not (route_there r q ∙ h)) old.routes)

    pub bar_new : ((d == c) && barred x) ≡ true → is_barred (mixed old new c listed barred) x d ≡ is_barred new x d
    bar_new h =
        let t = λ (b : Pair). (b.exchange == x) && (b.code == d) in
        any_second t _ (filter (is_bar_there c barred) new.bars) (any_out t (λ b. not (is_bar_there c barred b)) (λ b q. ap not (bar_there b q ∙ h)) old.bars)
        ∙ any_in t (is_bar_there c barred) (λ b q. bar_there b q ∙ h) new.bars

    pub bar_old : ((d == c) && barred x) ≡ false → is_barred (mixed old new c listed barred) x d ≡ is_barred old x d
    bar_old h =
        let t = λ (b : Pair). (b.exchange == x) && (b.code == d) in
        any_first t (filter (λ b. not (is_bar_there c barred b)) old.bars) _ (any_out t (is_bar_there c barred) (λ b q. bar_there b q ∙ h) new.bars)
        ∙ any_in t (λ b. not (is_bar_there c barred b)) (λ b q. ap not (bar_there b q ∙ h)) old.bars

  -- ITS RULES
  module _ (ok : IsPlan old) (new_ok : IsPlan new) (same : SameNetwork old new) where
    route_over : (routes : List Route) (bars : List Pair) (r : Route) → IsRoute (rerouted old routes bars) r → IsRoute (mixed old new c listed barred) r
    route_over routes bars r h = record { exchange = h.exchange; code = h.code; away = h.away; some = h.some; few = h.few; outgoing = h.outgoing; differ = h.differ }

    bar_over : (routes : List Route) (bars : List Pair) (b : Pair) → IsBar (rerouted old routes bars) b → IsBar (mixed old new c listed barred) b
    bar_over routes bars b h = record { exchange = h.exchange; code = h.code; away = h.away }

    new_rules : IsPlan (rerouted old new.routes new.bars)
    new_rules = subst IsPlan (sym (rerouted-is old new same)) new_ok

    routes_apart : (r q : Route) → not (is_route_there c listed r) ≡ true → is_route_there c listed q ≡ true → r.exchange ≡ q.exchange → r.code ≢ q.code
    routes_apart r q a b e f =
        let alike : is_route_there c listed r ≡ is_route_there c listed q = λ i. (f i == c) && listed (e i) in
        true≢false (sym b ∙ (sym alike ∙ not-true _ a))

    bars_apart : (r q : Pair) → not (is_bar_there c barred r) ≡ true → is_bar_there c barred q ≡ true → r.exchange ≡ q.exchange → r.code ≢ q.code
    bars_apart r q a b e f =
        let alike : is_bar_there c barred r ≡ is_bar_there c barred q = λ i. (f i == c) && barred (e i) in
        true≢false (sym b ∙ (sym alike ∙ not-true _ a))

    pub mixed_rules : IsPlan (mixed old new c listed barred)
    mixed_rules =
        let n = new_rules in
        record {
          exchanges = ok.exchanges;
          exchanges_differ = ok.exchanges_differ;
          few_exchanges = ok.few_exchanges;
          codes = all_map old.codes (λ k h. record { figures = h.figures; home = h.home }) ok.codes;
          codes_differ = ok.codes_differ;
          few_codes = ok.few_codes;
          ranges = all_map old.ranges (λ r h. record { code = h.code; low = h.low; high = h.high; width = h.width; order = h.order }) ok.ranges;
          ranges_apart = ok.ranges_apart;
          few_ranges = ok.few_ranges;
          groups = all_map old.groups (λ g h. record { name = h.name; first = h.first; second = h.second; ends_differ = h.ends_differ; some = h.some; few = h.few }) ok.groups;
          groups_differ = ok.groups_differ;
          few_groups = ok.few_groups;
          routes = all_joined (IsRoute (mixed old new c listed barred)) (filter (λ r. not (is_route_there c listed r)) old.routes) (filter (is_route_there c listed) new.routes)
              (all_kept (IsRoute (mixed old new c listed barred)) (λ r. not (is_route_there c listed r)) old.routes (all_map old.routes (λ r h. route_over old.routes old.bars r h) ok.routes))
              (all_kept (IsRoute (mixed old new c listed barred)) (is_route_there c listed) new.routes (all_map new.routes (λ r h. route_over new.routes new.bars r h) n.routes));
          routes_differ = pairs_joined (λ r. not (is_route_there c listed r) ≡ true) (λ r. is_route_there c listed r ≡ true) (λ r q. r.exchange ≡ q.exchange → r.code ≢ q.code) (filter (λ r. not (is_route_there c listed r)) old.routes) (filter (is_route_there c listed) new.routes)
              (pairs_kept (λ r q. r.exchange ≡ q.exchange → r.code ≢ q.code) (λ r. not (is_route_there c listed r)) old.routes ok.routes_differ)
              (pairs_kept (λ r q. r.exchange ≡ q.exchange → r.code ≢ q.code) (is_route_there c listed) new.routes new_ok.routes_differ)
              (all_pass (λ r. not (is_route_there c listed r)) old.routes) (all_pass (is_route_there c listed) new.routes) routes_apart;
          bars = all_joined (IsBar (mixed old new c listed barred)) (filter (λ b. not (is_bar_there c barred b)) old.bars) (filter (is_bar_there c barred) new.bars)
              (all_kept (IsBar (mixed old new c listed barred)) (λ b. not (is_bar_there c barred b)) old.bars (all_map old.bars (λ b h. bar_over old.routes old.bars b h) ok.bars))
              (all_kept (IsBar (mixed old new c listed barred)) (is_bar_there c barred) new.bars (all_map new.bars (λ b h. bar_over new.routes new.bars b h) n.bars));
          bars_differ = pairs_joined (λ b. not (is_bar_there c barred b) ≡ true) (λ b. is_bar_there c barred b ≡ true) (λ r q. r.exchange ≡ q.exchange → r.code ≢ q.code) (filter (λ b. not (is_bar_there c barred b)) old.bars) (filter (is_bar_there c barred) new.bars)
              (pairs_kept (λ r q. r.exchange ≡ q.exchange → r.code ≢ q.code) (λ b. not (is_bar_there c barred b)) old.bars ok.bars_differ)
              (pairs_kept (λ r q. r.exchange ≡ q.exchange → r.code ≢ q.code) (is_bar_there c barred) new.bars new_ok.bars_differ)
              (all_pass (λ b. not (is_bar_there c barred b)) old.bars) (all_pass (is_bar_there c barred) new.bars) bars_apart;
        }

    pub mixed_mixture : IsMixture old new (mixed old new c listed barred)
    mixed_mixture = record {
      rules = mixed_rules;
      network = record { exchanges = refl; codes = refl; ranges = refl; groups = refl };
      lists = λ x d. elim ((d == c) && listed x) as (λ b. ((d == c) && listed x) ≡ b → IsEither (route_list (mixed old new c listed barred) x d) (route_list old x d) (route_list new x d)) [
        | true ↦ λ e. inr (list_new x d e)
        | false ↦ λ e. inl (list_old x d e)
      ] refl;
      bars = λ x d. elim ((d == c) && barred x) as (λ b. ((d == c) && barred x) ≡ b → IsEither (is_barred (mixed old new c listed barred) x d) (is_barred old x d) (is_barred new x d)) [
        | true ↦ λ e. inr (bar_new x d e)
        | false ↦ λ e. inl (bar_old x d e)
      ] refl;
    }
