-- Routes and bars of a plan, in another plan that has its network.
use Rattle.tx_join.proofs.Common.{◌≡◌, ◌≢◌, ℕ, ◌<◌, ◌≤◌, true, false, ◌||◌, ◌&&◌, ◌==◌, List, length, Option, Some, None, inl, inr, refl, sym, ap, ◌∙◌, subst, eq-eqb, eqb-true, slice_get, option_map_or, length-map, slice_get_within, or-true, Direction, OneWay, Pair, Plan, Group, Route, home_of, IsPlan, IsRoute, IsBar, rerouted, entry_at, all_map, all_mapped, exchange_in, code_in, group_in, route_in, bar_in, HasNetwork}
use Rattle.std.proofs.lemmas.Bool.{and_parts, and_from, or_cases}
use Rattle.tx_plan.specs.Circuits.{may_seize, may_seize_row, is_both}
use Rattle.tx_join.proofs.Found.{pairs_map, pairs_mapped}
use Rattle.tx_join.proofs.Knows.{exchanges_apart, codes_apart, groups_apart}

-- a group of the plan that an exchange may seize
pub record Seized (p : Plan) (g x : ℕ) : Type 0 where
  pub row : Group
  pub at : slice_get p.groups g ≡ Some row
  pub by : may_seize_row row x ≡ true

pub seized : (p : Plan) (g x : ℕ) → may_seize p g x ≡ true → Seized p g x
seized p g x h = from (slice_get p.groups g) refl h
  where
    from : (o : Option Group) → slice_get p.groups g ≡ o → option_map_or (λ r. may_seize_row r x) o false ≡ true → Seized p g x
    from None e k = absurd (let bad : ⊥ = cc in bad)
    from (Some r) e k = record { row = r; at = e; by = k }

abbrev row_ends : Option Group → ℕ × ℕ
row_ends o = option_map_or (λ r. (r.a, r.b)) o (0, 0)

abbrev row_direction : Option Group → Direction
row_direction o = option_map_or (λ r. r.direction) o OneWay

module _ (j p : Plan) (ok : IsPlan p) (has : HasNetwork j p) where
  pub exchange_once : (x y : ℕ) → x < length p.exchanges → y < length p.exchanges → exchange_in j p x ≡ exchange_in j p y → x ≡ y
  exchange_once = exchanges_apart j p ok has.exchanges.named

  pub code_once : (c d : ℕ) → c < length p.codes → d < length p.codes → code_in j p c ≡ code_in j p d → c ≡ d
  code_once = codes_apart j p ok has.codes.named

  -- an exchange may seize what it may seize in p
  pub may_seize_in : (g x : ℕ) → may_seize p g x ≡ true → may_seize j (group_in j p g) (exchange_in j p x) ≡ true
  may_seize_in g x h =
      let s = seized p g x h in
      let l = slice_get_within p.groups g s.row s.at in
      let e = entry_at j.groups (group_in j p g) (has.groups.there g l) in
      let a : e.0.a ≡ exchange_in j p s.row.a = ap (λ o. (row_ends o).0) (sym e.1) ∙ has.groups.first g l ∙ ap (λ o. exchange_in j p (row_ends o).0) s.at in
      let b : e.0.b ≡ exchange_in j p s.row.b = ap (λ o. (row_ends o).1) (sym e.1) ∙ has.groups.second g l ∙ ap (λ o. exchange_in j p (row_ends o).1) s.at in
      let d : e.0.direction ≡ s.row.direction = ap row_direction (sym e.1) ∙ has.groups.direction g l ∙ ap row_direction s.at in
      let row : may_seize_row e.0 (exchange_in j p x) ≡ true = elim (or_cases (s.row.a == x) (is_both s.row.direction && (s.row.b == x)) s.by) [
        | inl k ↦ ap (λ c. c || (is_both e.0.direction && (e.0.b == exchange_in j p x))) (eq-eqb e.0.a (exchange_in j p x) (a ∙ ap (exchange_in j p) (eqb-true s.row.a x k)))
        | inr k ↦
            let t = and_parts (is_both s.row.direction) (s.row.b == x) k in
            ap (λ c. (e.0.a == exchange_in j p x) || c) (and_from (is_both e.0.direction) (e.0.b == exchange_in j p x) (ap is_both d ∙ t.0) (eq-eqb e.0.b (exchange_in j p x) (b ∙ ap (exchange_in j p) (eqb-true s.row.b x t.1)))) ∙ or-true (e.0.a == exchange_in j p x)
      ] in
      ap (λ (o : Option Group). option_map_or (λ r. may_seize_row r (exchange_in j p x)) o false) e.1 ∙ row

  module _ (routes : List Route) (bars : List Pair) where
    -- away from the home there too
    away_in : (x c : ℕ) → x < length p.exchanges → c < length p.codes → home_of p c < length p.exchanges → home_of p c ≢ x → home_of j (code_in j p c) ≢ exchange_in j p x
    away_in x c l m k n e = n (exchange_once (home_of p c) x k l (sym (has.codes.home c m) ∙ e))

    pub route_rules : ((c : ℕ) → c < length p.codes → home_of p c < length p.exchanges) → (r : Route) → IsRoute p r → IsRoute (rerouted j routes bars) (route_in j p r)
    route_rules home r h = record {
      exchange = has.exchanges.there r.exchange h.exchange;
      code = has.codes.there r.code h.code;
      away = away_in r.exchange r.code h.exchange h.code (home r.code h.code) h.away;
      some = subst (λ n. 1 ≤ n) (sym (length-map r.groups (group_in j p))) h.some;
      few = subst (λ n. n ≤ 16) (sym (length-map r.groups (group_in j p))) h.few;
      outgoing = all_mapped (group_in j p) (λ g. may_seize j g (exchange_in j p r.exchange) ≡ true) r.groups (all_map r.groups (λ g k. may_seize_in g r.exchange k) h.outgoing);
      differ = pairs_mapped (group_in j p) (λ g k. g ≢ k) r.groups
          (pairs_map (λ g. may_seize p g r.exchange ≡ true) r.groups (λ g k m n d e. d (groups_apart j p ok has.groups.named g k (within g m) (within k n) e)) h.outgoing h.differ);
    }
      where
        within : (g : ℕ) → may_seize p g r.exchange ≡ true → g < length p.groups
        within g m = let s = seized p g r.exchange m in slice_get_within p.groups g s.row s.at

    pub bar_rules : ((c : ℕ) → c < length p.codes → home_of p c < length p.exchanges) → (b : Pair) → IsBar p b → IsBar (rerouted j routes bars) (bar_in j p b)
    bar_rules home b h = record {
      exchange = has.exchanges.there b.exchange h.exchange;
      code = has.codes.there b.code h.code;
      away = away_in b.exchange b.code h.exchange h.code (home b.code h.code) h.away;
    }
