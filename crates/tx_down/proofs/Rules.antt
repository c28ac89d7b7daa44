-- A plan without some groups obeys the rules.
use Rattle.std.proofs.Common.{◌≡◌, ◌≢◌, ℕ, ◌≤◌, Bool, true, false, cond, not, ◌==◌, List, [], ◌∷◌, map, length, refl, subst, arith}
use Rattle.tx_join.proofs.Common.{AllByRecursion, filter, not-true, Plan, Group, Route, EachPair, IsPlan, IsCode, IsRange, IsGroup, IsRoute, IsBar, all_map, all_kept, pairs_kept}
use Rattle.std.proofs.lemmas.Bool.{eqb-false}
use Rattle.tx_plan.proofs.Rerouted.{kept_rerouted}
use Rattle.tx_down.specs.Without.{is_one_of, network_without, route_over, plan_without}
use Rattle.tx_down.proofs.Taking.{kept_few}
use Rattle.tx_down.proofs.Over.{few, outgoing, differ, all_within}

-- a route has groups
abbrev pub has_some : Route → Bool
has_some r = not (length r.groups == 0)

-- two routes are of different exchanges or codes
abbrev Apart : Route → Route → Type 0
Apart r q = r.exchange ≡ q.exchange → r.code ≢ q.code

module _ (p : Plan) (ok : IsPlan p) (down : List ℕ) where
  abbrev w : Plan
  w = network_without p down

  -- the network, with the bars of the plan
  abbrev barred : Plan
  barred = record w { bars = p.bars }

  abbrev up : Group → Bool
  up g = not (is_one_of p down g.name)

  barred_rules : IsPlan barred
  barred_rules = record {
    exchanges = ok.exchanges;
    exchanges_differ = ok.exchanges_differ;
    few_exchanges = ok.few_exchanges;
    codes = all_map {P = IsCode p} {Q = IsCode barred} p.codes
        (λ c k. record { figures = k.figures; home = k.home }) ok.codes;
    codes_differ = ok.codes_differ;
    few_codes = ok.few_codes;
    ranges = all_map {P = IsRange p} {Q = IsRange barred} p.ranges
        (λ r k. record { code = k.code; low = k.low; high = k.high; width = k.width; order = k.order }) ok.ranges;
    ranges_apart = ok.ranges_apart;
    few_ranges = ok.few_ranges;
    groups = all_map {P = IsGroup p} {Q = IsGroup barred} (filter up p.groups)
        (λ g k. record { name = k.name; first = k.first; second = k.second; ends_differ = k.ends_differ; some = k.some; few = k.few })
        (all_kept (IsGroup p) up p.groups ok.groups);
    groups_differ = pairs_kept (λ (g : Group) (h : Group). g.name ≢ h.name) up p.groups ok.groups_differ;
    few_groups = (let k = kept_few up p.groups in let most = ok.few_groups in omega (arith, k, most));
    routes = tt;
    routes_differ = tt;
    bars = all_map {P = IsBar p} {Q = IsBar barred} p.bars
        (λ b k. record { exchange = k.exchange; code = k.code; away = k.away }) ok.bars;
    bars_differ = ok.bars_differ;
  }

  over_rules : (r : Route) → IsRoute p r → has_some (route_over w p r) ≡ true
      → IsRoute barred (route_over w p r)
  over_rules r h some =
      let n = length (route_over w p r).groups in
      let less = few p ok down r.groups in
      let most = h.few in
      let other : n ≢ 0 = eqb-false n 0 (not-true (n == 0) some) in
      record {
        exchange = h.exchange;
        code = h.code;
        away = h.away;
        some = omega (arith, other);
        few = omega (arith, less, most);
        outgoing = outgoing p ok down r.exchange r.groups h.outgoing;
        differ = differ p ok down r.groups h.differ (all_within p ok down r.exchange r.groups h.outgoing);
      }

  each_over : (rs : List Route) → AllByRecursion (IsRoute p) rs
      → AllByRecursion (IsRoute barred) (filter has_some (map (route_over w p) rs))
  each_over [] a = tt
  each_over (r ∷ rs) a =
      let rest = each_over rs a.1 in
      elim (has_some (route_over w p r)) as (λ b. has_some (route_over w p r) ≡ b
      → AllByRecursion (IsRoute barred) (cond b (route_over w p r ∷ filter has_some (map (route_over w p) rs))
      (filter has_some (map (route_over w p) rs)))) [
        | true ↦ λ e. (over_rules r a.0 e, rest)
        | false ↦ λ e. rest
      ] refl

  all_apart : (r : Route) (rs : List Route) → AllByRecursion (Apart r) rs
      → AllByRecursion (Apart (route_over w p r)) (map (route_over w p) rs)
  all_apart r [] a = tt
  all_apart r (q ∷ rs) a = (a.0, all_apart r rs a.1)

  pairs_apart : (rs : List Route) → EachPair Apart rs → EachPair Apart (map (route_over w p) rs)
  pairs_apart [] a = tt
  pairs_apart (r ∷ rs) a = (all_apart r rs a.0, pairs_apart rs a.1)

  pub without_rules : IsPlan (plan_without p down)
  without_rules = kept_rerouted barred barred_rules (filter has_some (map (route_over w p) p.routes)) (record {
    each = each_over p.routes ok.routes;
    differ = pairs_kept Apart has_some (map (route_over w p) p.routes) (pairs_apart p.routes ok.routes_differ);
  })
