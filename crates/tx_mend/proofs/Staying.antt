-- A plan whose codes all keep their routes stays as it is.
use Rattle.tx_mend.proofs.Common.{◌≡◌, ◌≢◌, ℕ, ◌<◌, ◌≤◌, true, false, cond, ◌==◌, ◌&&◌, List, [], ◌∷◌, ◌++◌, length, map, Option, Some, inl, inr, refl, sym, ap, ◌∙◌, arith, append-nil, eq-eqb, eqb-true, filter, find, flat_map, option_map_or, and_parts, and_from, not-true, flat_map-append, Plan, Route, IsPlan, IsRoute, EachPair, route_list, has_route, Among, among_right, filter_among, all_among, keeps_routes, mended_routes, all_pairs, route_if, mended_list, present_pairs, is_absent, list_cases, pair_of}
use Rattle.tx_mend.specs.Laws.{CertifiedStays}
use Rattle.tx_mend.proofs.Routed.{has_any, pair_within}
use Rattle.tx_mend.proofs.Mendable.{keeps_exactly}
use Rattle.tx_mend.proofs.Trimmed.{kept_mended}

-- a route is the first one of its pair
found_self : (rs : List Route) (r : Route) → EachPair (λ (r q : Route). r.exchange ≡ q.exchange → r.code ≢ q.code) rs → Among r rs → find (λ q. (q.exchange == r.exchange) && (q.code == r.code)) rs ≡ Some r
found_self [] r d m = absurd m
found_self (q ∷ rs) r d (inl e) =
    let t : ((q.exchange == r.exchange) && (q.code == r.code)) ≡ true = and_from (q.exchange == r.exchange) (q.code == r.code) (eq-eqb q.exchange r.exchange (ap (λ (z : Route). z.exchange) e)) (eq-eqb q.code r.code (ap (λ (z : Route). z.code) e)) in
    ap (λ b. cond b (Some q) (find (λ q. (q.exchange == r.exchange) && (q.code == r.code)) rs)) t ∙ ap (λ (z : Route). Some z) e
found_self (q ∷ rs) r d (inr m) =
    elim ((q.exchange == r.exchange) && (q.code == r.code)) as (λ b. ((q.exchange == r.exchange) && (q.code == r.code)) ≡ b → cond b (Some q) (find (λ q. (q.exchange == r.exchange) && (q.code == r.code)) rs) ≡ Some r) [
      | true ↦ λ t.
          let s = and_parts (q.exchange == r.exchange) (q.code == r.code) t in
          absurd (all_among (λ (z : Route). q.exchange ≡ z.exchange → q.code ≢ z.code) rs r d.0 m (eqb-true q.exchange r.exchange s.0) (eqb-true q.code r.code s.1))
      | false ↦ λ t. found_self rs r d.1 m
    ] refl

module _ (p : Plan) (ok : IsPlan p) (limit spare : ℕ) (kept : (c : ℕ) → c < length p.codes → keeps_routes p c limit spare ≡ true) where
  abbrev F : ℕ × ℕ → List Route
  F k = route_if k (mended_list p limit spare k.1 k.0)

  same_list : (x c : ℕ) → c < length p.codes → mended_list p limit spare c x ≡ route_list p x c
  same_list x c h = kept_mended p ok limit spare x c (kept c h)

  route_stays : (r : Route) → Among r p.routes → F (pair_of r) ≡ r ∷ []
  route_stays r m =
      let rule = all_among (IsRoute p) p.routes r ok.routes m in
      let own : route_list p r.exchange r.code ≡ r.groups = ap (λ (o : Option Route). option_map_or (λ (r : Route). r.groups) o []) (found_self p.routes r ok.routes_differ m) in
      by r.groups refl (same_list r.exchange r.code rule.code ∙ own) rule.some
    where
      by : (l : List ℕ) → r.groups ≡ l → mended_list p limit spare r.code r.exchange ≡ r.groups → 1 ≤ length r.groups → F (pair_of r) ≡ r ∷ []
      by [] e k some = absurd (let z = ap length e in omega arith)
      by (g ∷ gs) e k some = ap (route_if (pair_of r)) (k ∙ e) ∙ ap (λ (l : List ℕ). record { exchange = r.exchange; code = r.code; groups = l } ∷ []) (sym e)

  all_stay : (rs : List Route) → ((r : Route) → Among r rs → Among r p.routes) → flat_map F (map pair_of rs) ≡ rs
  all_stay [] h = refl
  all_stay (r ∷ rs) h = ap (λ l. l ++ flat_map F (map pair_of rs)) (route_stays r (h r (inl refl))) ∙ ap (λ l. r ∷ l) (all_stay rs (λ q m. h q (inr m)))

  none_new : (ks : List (ℕ × ℕ)) → ((k : ℕ × ℕ) → Among k ks → (k.1 < length p.codes) × (is_absent p k ≡ true)) → flat_map F ks ≡ []
  none_new [] h = refl
  none_new (k ∷ ks) h =
      let a = h k (inl refl) in
      let none : route_list p k.0 k.1 ≡ [] = elim (list_cases p k.0 k.1) [
        | inl e ↦ e
        | inr f ↦ (let t = has_any k.0 k.1 p.routes f.route f.among f.exchange f.code in let n = not-true (has_route p k.0 k.1) a.1 in let bad : ⊥ = cc in absurd bad)
      ] in
      ap (λ l. l ++ flat_map F ks) (ap (route_if k) (same_list k.0 k.1 a.0 ∙ none)) ∙ none_new ks (λ j m. h j (inr m))

  routes_stay : mended_routes p limit spare ≡ p.routes
  routes_stay =
      let absent : List (ℕ × ℕ) = filter (is_absent p) (all_pairs p) in
      flat_map-append F (present_pairs p) absent
      ∙ ap (λ l. l ++ flat_map F absent) (all_stay p.routes (λ r m. m))
      ∙ ap (λ l. p.routes ++ l) (none_new absent (λ k m. ((pair_within p ok k (among_right k (present_pairs p) absent m)).1, (filter_among (is_absent p) k (all_pairs p) m).1)))
      ∙ append-nil p.routes

pub stays : CertifiedStays
stays p ok ranks limit spare cert =
    let kept : (c : ℕ) → c < length p.codes → keeps_routes p c limit spare ≡ true = λ c h. (keeps_exactly p ok c limit spare h).1 (record {
      ranks = ranks;
      falling = record { home = cert.homes c h; low = λ x r e. cert.low c x r h e; lists = λ x r e away. cert.lists c x r h e away };
      origins = λ x o. cert.origins c x h o;
    }) in
    ap (λ (l : List Route). record p { routes = l }) (routes_stay p ok limit spare kept)
