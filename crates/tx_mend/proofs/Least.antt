-- Least ranks are least.
use Rattle.tx_mend.proofs.Common.{◌≡◌, ◌≢◌, ℕ, suc, ◌<◌, ◌≤◌, true, List, length, Option, Some, inl, inr, sym, ap, subst, ◌∙◌, arith, filter, is_some, option_and_then, list_all, and_from, lt-ltb, Plan, Route, home_of, IsPlan, IsRoute, route_list, may_seize, other_end, Ranks, LeadsLower, Among, among_filter, all_among, list_cases, list_seizes, rerouted, IsFalling, can_follow_keeping, rank_keeping, AllDiffer, below_rank}
use Rattle.tx_plan.proofs.Growing.{seizes_within}
use Rattle.tx_mend.specs.LeastRanks.{indexes, RanksOfCode, outgoing, leads_on, can_follow, least_rank, LeastRanksAreLeast}
use Rattle.tx_mend.proofs.Distinct.{some_among, fits, among_range, holds_all}
use Rattle.tx_mend.proofs.RoundRanks.{no_greater}

-- no group is in a list twice
pub list_differs : (p : Plan) → IsPlan p → (x c : ℕ) → AllDiffer (route_list p x c)
list_differs p ok x c = elim (list_cases p x c) [
  | inl e ↦ subst AllDiffer (sym e) tt
  | inr f ↦ subst AllDiffer (sym f.groups) (all_among (IsRoute p) p.routes f.route ok.routes f.among).differ
]

-- a group that may be seized is one of the plan, and so stands among those that its exchange may seize
pub outgoing_has : (p : Plan) (g x : ℕ) → may_seize p g x ≡ true → Among g (outgoing p x)
outgoing_has p g x h = among_filter (λ (g : ℕ). may_seize p g x) g (indexes (length p.groups)) (among_range 0 (length p.groups) g (omega arith) (let w = seizes_within p g x h in omega arith)) h

-- a group that leads to a ranked exchange
pub leads : (p : Plan) (ranks : RanksOfCode) (x g y n : ℕ) → other_end p g x ≡ Some y → ranks y ≡ Some n → leads_on p ranks x g ≡ true
leads p ranks x g y n e k = ap (λ (o : Option ℕ). is_some (option_and_then ranks o)) e ∙ ap (λ (o : Option ℕ). is_some o) k

module _ (p : Plan) (routes : List Route) where
  abbrev Q : Plan
  Q = rerouted p routes p.bars

  module _ (ok : IsPlan Q) (ranks : Ranks) (code limit spare : ℕ) (f : IsFalling Q ranks code limit spare) where
    positive : (x r : ℕ) → ranks code x ≡ Some r → x ≢ home_of p code → 0 < r
    positive x r e away =
        let d = f.lists x r e away in
        let s = some_among (route_list Q x code) spare d.enough in
        let l = all_among (LeadsLower Q ranks code x r) (route_list Q x code) s.0 d.each s.1 in
        let b = below_rank (ranks code l.to) r l.lower in
        let m = b.2 in
        omega arith

    fed : (x r : ℕ) → ranks code x ≡ Some r → x ≢ home_of p code → (other : RanksOfCode) → ((y m : ℕ) → ranks code y ≡ Some m → m < r → (n : ℕ) × (other y ≡ Some n)) → can_follow p spare other x ≡ true
    fed x r e away other h =
        let d = f.lists x r e away in
        let each : (g : ℕ) → Among g (route_list Q x code) → Among g (filter (λ g. leads_on p other x g) (outgoing p x)) = λ g m.
        let l = all_among (LeadsLower Q ranks code x r) (route_list Q x code) g d.each m in
        let b = below_rank (ranks code l.to) r l.lower in
        let o = h l.to b.0 b.1 b.2 in
        among_filter (λ g. leads_on p other x g) g (outgoing p x) (outgoing_has p g x (list_seizes Q ok x code g m)) (leads p other x g l.to o.0 l.leads o.1) in
        let long = fits (route_list Q x code) (filter (λ g. leads_on p other x g) (outgoing p x)) (list_differs Q ok x code) each in
        let enough = d.enough in
        lt-ltb spare (length (filter (λ g. leads_on p other x g) (outgoing p x))) (omega arith)

    pub least_with : (x r : ℕ) → ranks code x ≡ Some r → (n : ℕ) × (least_rank p code limit spare x ≡ Some n) × (n ≤ r)
    least_with x r e = let low = f.low x r e in no_greater (home_of p code) (can_follow p spare) (ranks code) positive fed (suc limit) x r (omega arith) e

    -- the same along routes that keep some lists
    module _ (kept : ℕ → List ℕ) (within : (x g : ℕ) → Among g (kept x) → Among g (route_list Q x code)) where
      fed_keeping : (x r : ℕ) → ranks code x ≡ Some r → x ≢ home_of p code → (other : RanksOfCode) → ((y m : ℕ) → ranks code y ≡ Some m → m < r → (n : ℕ) × (other y ≡ Some n)) → can_follow_keeping p spare kept other x ≡ true
      fed_keeping x r e away other h =
          and_from (can_follow p spare other x) (list_all (λ g. leads_on p other x g) (kept x)) (fed x r e away other h)
          (holds_all (λ g. leads_on p other x g) (kept x) (λ g m.
          let l = all_among (LeadsLower Q ranks code x r) (route_list Q x code) g (f.lists x r e away).each (within x g m) in
          let b = below_rank (ranks code l.to) r l.lower in
          let o = h l.to b.0 b.1 b.2 in
          leads p other x g l.to o.0 l.leads o.1))

      pub least_keeping : (x r : ℕ) → ranks code x ≡ Some r → (n : ℕ) × (rank_keeping p code limit spare kept x ≡ Some n) × (n ≤ r)
      least_keeping x r e = let low = f.low x r e in no_greater (home_of p code) (can_follow_keeping p spare kept) (ranks code) positive fed_keeping (suc limit) x r (omega arith) e

pub least : LeastRanksAreLeast
least p q s ranks code limit spare f =
    least_with p q.routes (subst (λ (k : Plan). IsPlan k) s.same s.plan) ranks code limit spare (subst (λ (k : Plan). IsFalling k ranks code limit spare) s.same f)
