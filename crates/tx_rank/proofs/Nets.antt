-- The network of a plan for one code obeys the rules of a plan.
use Rattle.std.proofs.Common.{◌≡◌, ℕ, ◌<◌, true, false, Bool, ◌&&◌, ◌||◌, ◌==◌, cond, List, [], ◌∷◌, length, inl, inr, Option, Some, None, refl, sym, ap, ◌∙◌, arith, eqb-true}
use Rattle.std.specs.Prelude.{slice_get, find, option_and_then, not}
use Rattle.tx_rank.proofs.Common.{list_any, and_parts, or_cases, false≢true, Among, net_of, IsNet, all_among}
use Rattle.std.specs.Option.{option_map_or}
use Rattle.tx_plan.specs.Plan.{Plan, Code, Group, Route, home_of}
use Rattle.tx_plan.specs.Routes.{route_list, is_origin, is_barred}
use Rattle.tx_plan.specs.Circuits.{other_end, far_end, may_seize, is_both}
use Rattle.tx_plan.specs.Rules.{IsPlan, IsCode, IsRange, IsGroup, IsRoute}
use Rattle.tx_plan.specs.declared.range.LineRange.{LineRange}
use Rattle.tx_plan.proofs.ByIndex.{entry_at}
use Rattle.tx_rank.proofs.Looks.{among_at}

module _ {A : Type 0} where
  found_among : (t : A → Bool) (xs : List A) (z : A) → find t xs ≡ Some z → Among z xs × (t z ≡ true)
  found_among t [] z h = cc
  found_among t (x ∷ xs) z h =
      elim (t x) as (λ b. t x ≡ b → cond b (Some x) (find t xs) ≡ Some z → Among z (x ∷ xs) × (t z ≡ true)) [
        | true ↦ λ tx e. let same : x ≡ z = cc in (inl same, ap t (sym same) ∙ tx)
        | false ↦ λ tx e. let i = found_among t xs z e in (inr i.0, i.1)
      ] refl h

  any_among : (t : A → Bool) (xs : List A) → list_any t xs ≡ true → (z : A) × Among z xs × (t z ≡ true)
  any_among t [] h = absurd (false≢true h)
  any_among t (x ∷ xs) h = elim (or_cases (t x) (list_any t xs) h) [ inl a ↦ (x, inl refl, a) | inr b ↦ let r = any_among t xs b in (r.0, inr r.1, r.2) ]

module _ (p : Plan) (ok : IsPlan p) where
  home_within : (c : ℕ) → c < length p.codes → home_of p c < length p.exchanges
  home_within c h =
      let k = entry_at p.codes c h in
      let e : home_of p c ≡ k.0.home = ap (λ o. option_map_or (λ (d : Code). d.home) o 0) k.1 in
      let w = (all_among (IsCode p) p.codes k.0 ok.codes (among_at p.codes c k.0 k.1)).home in
      omega arith

  pub origin_within : (x : ℕ) → is_origin p x ≡ true → x < length p.exchanges
  origin_within x h =
      let o = any_among (λ (r : LineRange). home_of p r.code == x) p.ranges h in
      let e = eqb-true (home_of p o.0.code) x o.2 in
      let w = home_within o.0.code (all_among (IsRange p) p.ranges o.0 ok.ranges o.1).code in
      omega arith

  leads_from : (g x : ℕ) → may_seize p g x ≡ true → (y : ℕ) × (other_end p g x ≡ Some y) × (y < length p.exchanges)
  leads_from g x h = by_get (slice_get p.groups g) refl h
    where
      by_ends : (r : Group) → IsGroup p r → ((r.a == x) || (is_both r.direction && (r.b == x))) ≡ true → (y : ℕ) × (far_end r x ≡ Some y) × (y < length p.exchanges)
      by_ends r w h =
          elim (r.a == x) as (λ b. (b || (is_both r.direction && (r.b == x))) ≡ true → (y : ℕ) × (cond b (Some r.b) (cond (r.b == x) (Some r.a) None) ≡ Some y) × (y < length p.exchanges)) [
            | true ↦ λ h. (r.b, refl, w.second)
            | false ↦ λ h. (r.a, ap (λ b. cond b (Some r.a) None) (and_parts (is_both r.direction) (r.b == x) h).1, w.first)
          ] h

      by_get : (o : Option Group) → slice_get p.groups g ≡ o → option_map_or (λ r. (r.a == x) || (is_both r.direction && (r.b == x))) o false ≡ true → (y : ℕ) × (option_and_then (λ r. far_end r x) o ≡ Some y) × (y < length p.exchanges)
      by_get None e h = absurd (false≢true h)
      by_get (Some r) e h = by_ends r (all_among (IsGroup p) p.groups r ok.groups (among_at p.groups g r e)) h

  leads_in : (c x g : ℕ) → Among g (route_list p x c) → (y : ℕ) × (other_end p g x ≡ Some y) × (y < length p.exchanges)
  leads_in c x g m = by_find (find (λ r. (r.exchange == x) && (r.code == c)) p.routes) refl m
    where
      by_find : (o : Option Route) → find (λ (r : Route). (r.exchange == x) && (r.code == c)) p.routes ≡ o → Among g (option_map_or (λ (r : Route). r.groups) o []) → (y : ℕ) × (other_end p g x ≡ Some y) × (y < length p.exchanges)
      by_find None e m = absurd m
      by_find (Some r) e m =
          let f = found_among (λ (k : Route). (k.exchange == x) && (k.code == c)) p.routes r e in
          let at = eqb-true r.exchange x (and_parts (r.exchange == x) (r.code == c) f.1).0 in
          let a = (all_among (IsRoute p) p.routes r ok.routes f.0).outgoing in
          leads_from g x (ap (may_seize p g) (sym at) ∙ all_among (λ (h : ℕ). may_seize p h r.exchange ≡ true) r.groups g a m)

  pub is_net : (c : ℕ) → c < length p.codes → IsNet (net_of p c)
  is_net c h = record { few = ok.few_exchanges; home = home_within c h; origins = λ x h. origin_within x (and_parts (is_origin p x) (not (is_barred p x c)) h).0; leads = λ x g m. leads_in c x g m; listed = λ x. omega arith }

pub leads_somewhere : (p : Plan) → IsPlan p → (c x g : ℕ) → Among g (route_list p x c) → other_end p g x ≡ None → ⊥
leads_somewhere p ok c x g m e = let l = leads_in p ok c x g m in let q = l.1 in let bad : ⊥ = cc in bad
