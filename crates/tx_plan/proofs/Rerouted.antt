-- A plan obeys the rules also with other routes that obey them.
use Rattle.tx_plan.proofs.Common.{◌≡◌, ◌≢◌, List, AllByRecursion, Plan, Route, EachPair, IsCode, IsRange, IsGroup, IsRoute, IsBar, IsPlan, rerouted}
use Rattle.tx_plan.proofs.Lists.{all_map}

-- routes that obey the rules of the plan
pub record AreRoutes (p : Plan) (routes : List Route) : Type 0 where
  pub each : AllByRecursion (IsRoute p) routes
  pub differ : EachPair (λ r q. r.exchange ≡ q.exchange → r.code ≢ q.code) routes

pub kept_rerouted : (p : Plan) → IsPlan p → (routes : List Route) → AreRoutes p routes → IsPlan (rerouted p routes p.bars)
kept_rerouted p h routes are =
    let q : Plan = rerouted p routes p.bars in
    record {
      exchanges = h.exchanges;
      exchanges_differ = h.exchanges_differ;
      few_exchanges = h.few_exchanges;
      codes = all_map {P = IsCode p} {Q = IsCode q} p.codes (λ c k. record { figures = k.figures; home = k.home }) h.codes;
      codes_differ = h.codes_differ;
      few_codes = h.few_codes;
      ranges = all_map {P = IsRange p} {Q = IsRange q} p.ranges (λ r k. record { code = k.code; low = k.low; high = k.high; width = k.width; order = k.order }) h.ranges;
      ranges_apart = h.ranges_apart;
      few_ranges = h.few_ranges;
      groups = all_map {P = IsGroup p} {Q = IsGroup q} p.groups (λ g k. record { name = k.name; first = k.first; second = k.second; ends_differ = k.ends_differ; some = k.some; few = k.few }) h.groups;
      groups_differ = h.groups_differ;
      few_groups = h.few_groups;
      routes = all_map {P = IsRoute p} {Q = IsRoute q} routes (λ r k. record { exchange = k.exchange; code = k.code; away = k.away; some = k.some; few = k.few; outgoing = k.outgoing; differ = k.differ }) are.each;
      routes_differ = are.differ;
      bars = all_map {P = IsBar p} {Q = IsBar q} p.bars (λ b k. record { exchange = k.exchange; code = k.code; away = k.away }) h.bars;
      bars_differ = h.bars_differ;
    }
