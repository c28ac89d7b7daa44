-- Heights are the steps of the longest ways, and an exchange that can be ranked has one.
use Rattle.tx_trace.proofs.Common.{◌≡◌, ◌≢◌, ℕ, zero, suc, ◌+◌, ◌-◌, ◌<◌, ◌≤◌, true, false, eqb, eqb-true, List, [], ◌∷◌, length, map, inl, inr, Option, Some, refl, sym, ap, ◌∙◌, arith, cases_lt, eqb-false, eq-eqb, Plan, home_of, route_list, IsPlan, Among, net_of, Goes, end_of, Certifies, IsHeight, is_net, far_ends, greatest, height_within, height}
use Rattle.tx_rank.proofs.Ranks.{Falls, all_down}
use Rattle.tx_trace.specs.Ranked.{net_from, CanBeRankedFrom}
use Rattle.tx_trace.proofs.Ends.{leads_to, among_ends}
use Rattle.tx_trace.proofs.Heights.{IsKnown, greater_parts, greatest_known, each_known, one_above_is, one_above_parts, greatest_grows, height-away, height-nowhere, home_zero, home_again, height_grows, height_lower, heights_certify, height_fits}

-- the greatest of some numbers is one of them
greatest_reached : (f : ℕ → Option ℕ) (ys : List ℕ) (q z : ℕ) → greatest (map f ys) ≡ Some q → Among z ys → (y : ℕ) × Among y ys × (f y ≡ Some q)
greatest_reached f [] q z h m = absurd m
greatest_reached f (y ∷ []) q z h m =
    let g = greater_parts (f y) (Some 0) q h in
    let none : 0 ≡ g.second = let e = g.other in cc in
    let same : g.first ≡ q = let e = g.is in omega arith in
    (y, inl refl, g.one ∙ ap (λ k. Some k) same)
greatest_reached f (y ∷ w ∷ ys) q z h m =
    let g = greater_parts (f y) (greatest (map f (w ∷ ys))) q h in
    elim (cases_lt g.first g.second) [
      | inl less ↦
          let r = greatest_reached f (w ∷ ys) g.second w g.other (inl refl) in
          let same : g.second ≡ q = let e = g.is in omega arith in
          (r.0, inr r.1, r.2 ∙ ap (λ k. Some k) same)
      | inr more ↦
          let same : g.first ≡ q = let e = g.is in omega arith in
          (y, inl refl, g.one ∙ ap (λ k. Some k) same)
    ]

module _ (p : Plan) (c : ℕ) where
  abbrev within : ℕ → ℕ → Option ℕ
  within = height_within p c

  -- more rounds, and as many as the height
  grows_by : (k j y r : ℕ) → within k y ≡ Some r → within (k + j) y ≡ Some r
  grows_by k zero y r h = ap (λ i. within i y) (let z : k + zero ≡ k = omega arith in z) ∙ h
  grows_by k (suc j) y r h = ap (λ i. within i y) (let z : k + suc j ≡ suc (k + j) = omega arith in z) ∙ height_grows p c (k + j) y r (grows_by k j y r h)

  grows_to : (k j y r : ℕ) → within k y ≡ Some r → k ≤ j → within j y ≡ Some r
  grows_to k j y r h le = ap (λ i. within i y) (let z : j ≡ k + (j - k) = omega arith in z) ∙ grows_by k (j - k) y r h

  shrinks : (k y h : ℕ) → within k y ≡ Some h → within h y ≡ Some h
  shrinks zero y h e =
      elim (eqb y (home_of p c)) as (λ b. eqb y (home_of p c) ≡ b → within h y ≡ Some h) [
        | true ↦ λ at. home_again p c h y h at (home_zero p c 0 y h at e)
        | false ↦ λ off. absurd (let n = height-nowhere p c y (eqb-false y (home_of p c) off) in let bad : ⊥ = cc in bad)
      ] refl
  shrinks (suc k) y h e =
      elim (eqb y (home_of p c)) as (λ b. eqb y (home_of p c) ≡ b → within h y ≡ Some h) [
        | true ↦ λ at. home_again p c h y h at (home_zero p c (suc k) y h at e)
        | false ↦ λ off.
            let away = eqb-false y (home_of p c) off in
            let ends = far_ends p c y in
            let o = one_above_parts (within k) ends h (sym (height-away p c k y away) ∙ e) in
            let less = greatest_grows (within k) (within o.value) ends o.value
            (λ z m s i.
            let known = each_known (within k) ends o.value z o.greatest m in
            let few : s ≤ o.value = let a = known.known in let same : known.value ≡ s = cc in let b = known.few in omega arith in
            grows_to s o.value z s (shrinks k z s i) few) o.greatest in
            ap (λ i. within i y) o.is ∙ height-away p c o.value y away ∙ one_above_is (within o.value) ends o.some o.value o.among less ∙ ap (λ n. Some n) (sym o.is)
      ] refl

  -- a way of as many steps as the height
  record IsWay (y h : ℕ) : Type 0 where
    steps : List (ℕ × ℕ)
    goes : Goes (net_of p c) y steps
    ends : end_of y steps ≡ home_of p c
    count : length steps ≡ h

  no_steps : (y h : ℕ) → eqb y (home_of p c) ≡ true → h ≡ 0 → IsWay y h
  no_steps y h at z = record { steps = []; goes = tt; ends = eqb-true y (home_of p c) at; count = sym z }

  way : (k y h : ℕ) → within k y ≡ Some h → IsWay y h
  way zero y h e =
      elim (eqb y (home_of p c)) as (λ b. eqb y (home_of p c) ≡ b → IsWay y h) [
        | true ↦ λ at. no_steps y h at (home_zero p c 0 y h at e)
        | false ↦ λ off. absurd (let n = height-nowhere p c y (eqb-false y (home_of p c) off) in let bad : ⊥ = cc in bad)
      ] refl
  way (suc k) y h e =
      elim (eqb y (home_of p c)) as (λ b. eqb y (home_of p c) ≡ b → IsWay y h) [
        | true ↦ λ at. no_steps y h at (home_zero p c (suc k) y h at e)
        | false ↦ λ off.
            let away = eqb-false y (home_of p c) off in
            let ends = far_ends p c y in
            let o = one_above_parts (within k) ends h (sym (height-away p c k y away) ∙ e) in
            let r = greatest_reached (within k) ends o.value o.some o.greatest o.among in
            let l = leads_to p c y r.0 r.1 in
            let rest = way k r.0 o.value r.2 in
            record { steps = (l.group, r.0) ∷ rest.steps; goes = (l.away, l.listed, l.leads, rest.goes); ends = rest.ends; count = ap suc rest.count ∙ sym o.is }
      ] refl

  module _ (ok : IsPlan p) (known : c < length p.codes) where
    falls : (k : ℕ) → Falls (net_of p c) (within k)
    falls k =
        record {
          lower = λ y r ranked away g m.
              let l = (is_net p ok c known).leads y g m in
              let s = height_lower p c k y r l.0 ranked away (among_ends p c y l.0 (record { away = away; group = g; listed = m; leads = l.1 })) in
              record { to = l.0; rank = s.0; leads = l.1; ranked = s.1; below = s.2 };
        }

    longest_within : (k y h : ℕ) → within k y ≡ Some h → IsHeight (net_of p c) y h
    longest_within k y h e =
        let w = way k y h e in
        record {
          steps = w.steps;
          goes = w.goes;
          ends = w.ends;
          count = w.count;
          longest = λ ways go end. let down = all_down (net_of p c) (within k) (falls k) y h ways e go in let b = down.within in omega arith;
        }

    pub height_longest : (y h : ℕ) → height p c y ≡ Some h → IsHeight (net_of p c) y h
    height_longest y h e = longest_within (length p.exchanges) y h e

    module _ (x : ℕ) (ranks : ℕ → Option ℕ) (limit : ℕ) (cert : Certifies (net_from p c x) ranks limit 0) where
      first_group : (gs : List ℕ) → 0 < length gs → (g : ℕ) × Among g gs
      first_group [] h = absurd (omega (arith, h))
      first_group (g ∷ gs) h = (g, inl refl)

      -- a ranked exchange leads to one of smaller rank
      record LeadsDown (y r : ℕ) : Type 0 where
        to : ℕ
        among : Among to (far_ends p c y)
        below : 0 < r

      leads_down : (y r : ℕ) → ranks y ≡ Some r → y ≢ home_of p c → LeadsDown y r
      leads_down y r ranked away =
          let g = first_group (route_list p y c) (cert.enough y r ranked away) in
          let low = cert.lower y r ranked away g.0 g.1 in
          record { to = low.to; among = among_ends p c y low.to (record { away = away; group = g.0; listed = g.1; leads = low.leads }); below = let b = low.below in omega arith }

      ranked_known : (k y r : ℕ) → ranks y ≡ Some r → r ≤ k → IsKnown (within k y) r
      ranked_known zero y r ranked le =
          elim (eqb y (home_of p c)) as (λ b. eqb y (home_of p c) ≡ b → IsKnown (within 0 y) r) [
            | true ↦ λ at. record { value = 0; known = home_again p c 0 y 0 at refl; few = omega arith }
            | false ↦ λ off. absurd (let b = (leads_down y r ranked (eqb-false y (home_of p c) off)).below in omega arith)
          ] refl
      ranked_known (suc k) y r ranked le =
          elim (eqb y (home_of p c)) as (λ b. eqb y (home_of p c) ≡ b → IsKnown (within (suc k) y) r) [
            | true ↦ λ at. record { value = 0; known = home_again p c (suc k) y 0 at refl; few = omega arith }
            | false ↦ λ off.
                let away = eqb-false y (home_of p c) off in
                let ends = far_ends p c y in
                let down = leads_down y r ranked away in
                let some = down.below in
                let each : (z : ℕ) → Among z ends → IsKnown (within k z) (r - 1) = λ z m.
                let l = leads_to p c y z m in
                let low = cert.lower y r ranked away l.group l.listed in
                let same : low.to ≡ z = let a = low.leads in let b = l.leads in cc in
                let b = low.below in
                let i = ranked_known k z low.rank (ap ranks (sym same) ∙ low.ranked) (omega arith) in
                record { value = i.value; known = i.known; few = let f = i.few in omega arith } in
                let top = greatest_known (within k) ends (r - 1) each in
                record { value = suc top.value; known = height-away p c k y away ∙ one_above_is (within k) ends down.to top.value down.among top.known; few = let f = top.few in omega arith }
          ] refl

      pub height_known : (y r : ℕ) → ranks y ≡ Some r → y < length p.exchanges → (h : ℕ) × (height p c y ≡ Some h)
      height_known y r ranked there =
          let i = ranked_known r y r ranked (omega arith) in
          let h = i.value in
          let fits = height_fits (net_of p c) (is_net p ok c known) (within r) (falls r) y h i.known (longest_within r y h i.known) there in
          (h, grows_to h (length p.exchanges) y h (shrinks r y h i.known) fits)

  -- an exchange has a height where the code can be ranked from there
  pub ranked_height : IsPlan p → c < length p.codes → (x : ℕ) → x < length p.exchanges → CanBeRankedFrom p c x → (h : ℕ) × (height p c x ≡ Some h)
  ranked_height ok known x there q = let o = q.2.origins x (let e : eqb x x ≡ true = eq-eqb x x refl in e) in height_known ok known x q.1 q.0 q.2 x o.0 o.1 there

  pub height_ranked : IsPlan p → c < length p.codes → (x h : ℕ) → height p c x ≡ Some h → CanBeRankedFrom p c x
  height_ranked ok known x h e = (255, height p c, heights_certify p ok c known x h e)
