-- What heights say of far ends, and that they are the ranks of a code that can be ranked.
use Rattle.std.proofs.Common.{◌≡◌, ◌≢◌, ℕ, zero, suc, ◌<◌, ◌≤◌, true, false, eqb, eqb-true, List, [], ◌∷◌, length, map, max, cond, inl, inr, Option, Some, None, refl, sym, ap, subst, ◌∙◌, arith}
use Rattle.tx_trace.proofs.Common.{option_map, eqb-false, eq-eqb, ne_eqb, length-le_from_distinct_below, Plan, home_of, route_list, IsPlan, Among, Net, Goes, end_of, passed, IsNet, Certifies, IsHeight, RanksByHeight, is_net, all_distinct, any_among, passed_below, passed_count, far_ends, net_from}
use Rattle.tx_rank.proofs.Ranks.{Falls, once_down}
use Rattle.tx_trace.specs.Heights.{greater, greatest, one_above, height_within, height}
use Rattle.tx_trace.proofs.Ends.{LeadsTo, leads_to, among_ends}

-- ---- the greatest of some numbers

pub record IsGreater (a b : Option ℕ) (q : ℕ) : Type 0 where
  pub first : ℕ
  pub second : ℕ
  pub one : a ≡ Some first
  pub other : b ≡ Some second
  pub is : q ≡ max first second

pub greater_parts : (a b : Option ℕ) (q : ℕ) → greater a b ≡ Some q → IsGreater a b q
greater_parts None b q h = absurd (let bad : ⊥ = cc in bad)
greater_parts (Some a) None q h = absurd (let bad : ⊥ = cc in bad)
greater_parts (Some a) (Some b) q h = record { first = a; second = b; one = refl; other = refl; is = let e : max a b ≡ q = cc in sym e }

-- a number that is known, and no greater than m
pub record IsKnown (a : Option ℕ) (m : ℕ) : Type 0 where
  pub value : ℕ
  pub known : a ≡ Some value
  pub few : value ≤ m

module _ (f : ℕ → Option ℕ) where
  pub greatest_known : (ys : List ℕ) (m : ℕ) → ((y : ℕ) → Among y ys → IsKnown (f y) m) → IsKnown (greatest (map f ys)) m
  greatest_known [] m each = record { value = 0; known = refl; few = omega arith }
  greatest_known (y ∷ ys) m each =
      let a = each y (inl refl) in
      let b = greatest_known ys m (λ z h. each z (inr h)) in
      record { value = max a.value b.value; known = λ i. greater (a.known i) (b.known i); few = let u = a.few in let v = b.few in omega arith }

  -- where the greatest is known, each is
  pub each_known : (ys : List ℕ) (q y : ℕ) → greatest (map f ys) ≡ Some q → Among y ys → IsKnown (f y) q
  each_known [] q y h m = absurd m
  each_known (z ∷ ys) q y h (inl k) =
      let g = greater_parts (f z) (greatest (map f ys)) q h in
      record { value = g.first; known = ap f (sym k) ∙ g.one; few = let e = g.is in omega arith }
  each_known (z ∷ ys) q y h (inr m) =
      let g = greater_parts (f z) (greatest (map f ys)) q h in
      let r = each_known ys g.second y g.other m in
      record { value = r.value; known = r.known; few = let e = g.is in let u = r.few in omega arith }

  greatest_below : (ys : List ℕ) (q k : ℕ) → ((y r : ℕ) → f y ≡ Some r → r ≤ k) → greatest (map f ys) ≡ Some q → q ≤ k
  greatest_below [] q k h e = let z : 0 ≡ q = cc in omega arith
  greatest_below (y ∷ ys) q k h e =
      let g = greater_parts (f y) (greatest (map f ys)) q e in
      let a = h y g.first g.one in
      let b = greatest_below ys g.second k h g.other in
      let i = g.is in
      omega arith

  pub one_above_is : (ys : List ℕ) (y q : ℕ) → Among y ys → greatest (map f ys) ≡ Some q → one_above (map f ys) ≡ Some (suc q)
  one_above_is [] y q m h = absurd m
  one_above_is (z ∷ ys) y q m h = ap (option_map suc) h

  pub record IsOneAbove (ys : List ℕ) (r : ℕ) : Type 0 where
    pub some : ℕ
    pub among : Among some ys
    pub value : ℕ
    pub greatest : greatest (map f ys) ≡ Some value
    pub is : r ≡ suc value

  pub one_above_parts : (ys : List ℕ) (r : ℕ) → one_above (map f ys) ≡ Some r → IsOneAbove ys r
  one_above_parts [] r h = absurd (let bad : ⊥ = cc in bad)
  one_above_parts (z ∷ ys) r h =
      elim (greatest (map f (z ∷ ys))) as (λ o. greatest (map f (z ∷ ys)) ≡ o → option_map suc o ≡ Some r → IsOneAbove (z ∷ ys) r) [
        | None ↦ λ e k. absurd (let bad : ⊥ = cc in bad)
        | Some q ↦ λ e k. record { some = z; among = inl refl; value = q; greatest = e; is = let s : suc q ≡ r = cc in sym s }
      ] refl h

pub greatest_grows : (f g : ℕ → Option ℕ) (ys : List ℕ) (q : ℕ) → ((y : ℕ) → Among y ys → (r : ℕ) → f y ≡ Some r → g y ≡ Some r) → greatest (map f ys) ≡ Some q → greatest (map g ys) ≡ Some q
greatest_grows f g [] q h e = e
greatest_grows f g (y ∷ ys) q h e =
    let k = greater_parts (f y) (greatest (map f ys)) q e in
    let a = h y (inl refl) k.first k.one in
    let b = greatest_grows f g ys k.second (λ z m. h z (inr m)) k.other in
    (λ i. greater (a i) (b i)) ∙ ap (λ n. Some n) (sym k.is)

-- ---- heights

module _ (p : Plan) (c : ℕ) where
  abbrev pub within : ℕ → ℕ → Option ℕ
  within = height_within p c

  height-home : (k : ℕ) → within k (home_of p c) ≡ Some 0
  height-home zero = ap (λ b. cond b (Some 0) None) (eq-eqb (home_of p c) (home_of p c) refl)
  height-home (suc k) = ap (λ b. cond b (Some 0) (one_above (map (within k) (far_ends p c (home_of p c))))) (eq-eqb (home_of p c) (home_of p c) refl)

  pub height-nowhere : (y : ℕ) → y ≢ home_of p c → within 0 y ≡ None
  height-nowhere y n = ap (λ b. cond b (Some 0) None) (ne_eqb y (home_of p c) n)

  pub height-away : (k y : ℕ) → y ≢ home_of p c → within (suc k) y ≡ one_above (map (within k) (far_ends p c y))
  height-away k y n = ap (λ b. cond b (Some 0) (one_above (map (within k) (far_ends p c y)))) (ne_eqb y (home_of p c) n)

  -- the home has height 0
  pub home_zero : (k y r : ℕ) → eqb y (home_of p c) ≡ true → within k y ≡ Some r → r ≡ 0
  home_zero k y r e h = let at = ap (within k) (eqb-true y (home_of p c) e) in let z = height-home k in let same : 0 ≡ r = cc in sym same

  pub home_again : (k y r : ℕ) → eqb y (home_of p c) ≡ true → r ≡ 0 → within k y ≡ Some r
  home_again k y r e z = ap (within k) (eqb-true y (home_of p c) e) ∙ height-home k ∙ ap (λ n. Some n) (sym z)

  height_few : (k y r : ℕ) → within k y ≡ Some r → r ≤ k
  height_few zero y r h =
      elim (eqb y (home_of p c)) as (λ b. eqb y (home_of p c) ≡ b → r ≤ 0) [
        | true ↦ λ e. let z = home_zero 0 y r e h in omega arith
        | false ↦ λ e. absurd (let n = height-nowhere y (eqb-false y (home_of p c) e) in let bad : ⊥ = cc in bad)
      ] refl
  height_few (suc k) y r h =
      elim (eqb y (home_of p c)) as (λ b. eqb y (home_of p c) ≡ b → r ≤ suc k) [
        | true ↦ λ e. let z = home_zero (suc k) y r e h in omega arith
        | false ↦ λ e.
            let o = one_above_parts (within k) (far_ends p c y) r (sym (height-away k y (eqb-false y (home_of p c) e)) ∙ h) in
            let b = greatest_below (within k) (far_ends p c y) o.value k (λ z s i. height_few k z s i) o.greatest in
            let i = o.is in
            omega arith
      ] refl

  pub height_grows : (k y r : ℕ) → within k y ≡ Some r → within (suc k) y ≡ Some r
  height_grows zero y r h =
      elim (eqb y (home_of p c)) as (λ b. eqb y (home_of p c) ≡ b → within 1 y ≡ Some r) [
        | true ↦ λ e. home_again 1 y r e (home_zero 0 y r e h)
        | false ↦ λ e. absurd (let n = height-nowhere y (eqb-false y (home_of p c) e) in let bad : ⊥ = cc in bad)
      ] refl
  height_grows (suc k) y r h =
      elim (eqb y (home_of p c)) as (λ b. eqb y (home_of p c) ≡ b → within (suc (suc k)) y ≡ Some r) [
        | true ↦ λ e. home_again (suc (suc k)) y r e (home_zero (suc k) y r e h)
        | false ↦ λ e.
            let away = eqb-false y (home_of p c) e in
            let ends = far_ends p c y in
            let o = one_above_parts (within k) ends r (sym (height-away k y away) ∙ h) in
            let more = greatest_grows (within k) (within (suc k)) ends o.value (λ z m s i. height_grows k z s i) o.greatest in
            height-away (suc k) y away ∙ one_above_is (within (suc k)) ends o.some o.value o.among more ∙ ap (λ n. Some n) (sym o.is)
      ] refl

  -- an exchange that has a height leads to some, and each of these has a smaller one
  height_leads : (k y r : ℕ) → within k y ≡ Some r → y ≢ home_of p c → (z : ℕ) × Among z (far_ends p c y)
  height_leads zero y r h away = absurd (let n = height-nowhere y away in let bad : ⊥ = cc in bad)
  height_leads (suc k) y r h away = let o = one_above_parts (within k) (far_ends p c y) r (sym (height-away k y away) ∙ h) in (o.some, o.among)

  pub height_lower : (k y r z : ℕ) → within k y ≡ Some r → y ≢ home_of p c → Among z (far_ends p c y) → (s : ℕ) × (within k z ≡ Some s) × (s < r)
  height_lower zero y r z h away m = absurd (let n = height-nowhere y away in let bad : ⊥ = cc in bad)
  height_lower (suc k) y r z h away m =
      let o = one_above_parts (within k) (far_ends p c y) r (sym (height-away k y away) ∙ h) in
      let e = each_known (within k) (far_ends p c y) o.value z o.greatest m in
      (e.value, height_grows k z e.value e.known, let u = e.few in let i = o.is in omega arith)

some_listed : (gs : List ℕ) (g : ℕ) → Among g gs → 0 < length gs
some_listed [] g m = absurd m
some_listed (h ∷ gs) g m = omega arith

module _ (p : Plan) (ok : IsPlan p) (c : ℕ) (known : c < length p.codes) where
  pub is_net_from : (x : ℕ) → x < length p.exchanges → IsNet (net_from p c x)
  is_net_from x h =
      let n = is_net p ok c known in
      record { few = n.few; home = n.home; origins = λ y o. subst (λ k. k < length p.exchanges) (sym (eqb-true y x o)) h; leads = n.leads; listed = n.listed }

  -- heights certify the code for calls that start where there is one
  pub heights_certify : (x h : ℕ) → height p c x ≡ Some h → Certifies (net_from p c x) (height p c) 255 0
  heights_certify x h e =
      let n = length p.exchanges in
      record {
        home = height-home p c n;
        origins = λ y o. (h, ap (height p c) (eqb-true y x o) ∙ e);
        low = λ y r ranked. let a = height_few p c n y r ranked in let b = ok.few_exchanges in omega arith;
        enough = λ y r ranked away. let l = height_leads p c n y r ranked away in let i = leads_to p c y l.0 l.1 in some_listed (route_list p y c) i.group i.listed;
        lower = λ y r ranked away g m.
            let l = (is_net p ok c known).leads y g m in
            let s = height_lower p c n y r l.0 ranked away (among_ends p c y l.0 (record { away = away; group = g; listed = m; leads = l.1 })) in
            record { to = l.0; rank = s.0; leads = l.1; ranked = s.1; below = s.2 };
      }

-- ---- no way that falls is longer than the exchanges

module _ (n : Net) (net : IsNet n) where
  pub height_fits : (ranks : ℕ → Option ℕ) → Falls n ranks → (y r : ℕ) → ranks y ≡ Some r → IsHeight n y r → y < n.exchanges → r ≤ n.exchanges
  height_fits ranks falls y r ranked h within =
      let once = once_down n ranks falls y r h.steps ranked h.goes in
      let few = length-le_from_distinct_below (passed y h.steps) n.exchanges (all_distinct (passed y h.steps) once) (λ q a. passed_below n net y h.steps h.goes within q (any_among q (passed y h.steps) a)) in
      let e = passed_count y h.steps in
      let k = h.count in
      omega arith

-- ---- ranks by height are the heights

module _ (p : Plan) (c x : ℕ) (ranks : ℕ → Option ℕ) (heights : RanksByHeight (net_from p c x) ranks) (certified : Certifies (net_from p c x) ranks 255 0) where
  -- a group of y leads to z, of rank s
  record LeadsLower (y z r : ℕ) : Type 0 where
    rank : ℕ
    ranked : ranks z ≡ Some rank
    below : rank < r

  one_lower : (y r g z : ℕ) → ranks y ≡ Some r → y ≢ home_of p c → Among g (route_list p y c) → (net_from p c x).far g y ≡ Some z → LeadsLower y z r
  one_lower y r g z ranked away m leads =
      let low = certified.lower y r ranked away g m in
      let same : low.to ≡ z = let e = low.leads in cc in
      record { rank = low.rank; ranked = ap ranks (sym same) ∙ low.ranked; below = low.below }

  -- the first step of a longest way
  record HasFirst (y r : ℕ) : Type 0 where
    to : ℕ
    rank : ℕ
    leads : LeadsTo p c y to
    ranked : ranks to ≡ Some rank
    is : suc rank ≡ r

  first_on : (y r : ℕ) → ranks y ≡ Some r → y ≢ home_of p c → (steps : List (ℕ × ℕ)) → Goes (net_from p c x) y steps → end_of y steps ≡ home_of p c → length steps ≡ r → HasFirst y r
  first_on y r ranked away [] goes ends count = absurd (away ends)
  first_on y r ranked away (s ∷ steps) goes ends count =
      let low = one_lower y r s.0 s.1 ranked away goes.1 goes.2 in
      let most = (heights.heights s.1 low.rank low.ranked).longest steps goes.3 ends in
      record { to = s.1; rank = low.rank; leads = record { away = away; group = s.0; listed = goes.1; leads = goes.2 }; ranked = low.ranked; is = let b = low.below in omega arith }

  ranked_home : (k y r : ℕ) → ranks y ≡ Some r → eqb y (home_of p c) ≡ true → height_within p c k y ≡ Some r
  ranked_home k y r ranked e =
      let at = ap ranks (eqb-true y (home_of p c) e) in
      let z = certified.home in
      let same : 0 ≡ r = cc in
      home_again p c k y r e (sym same)

  pub height_is : (k y r : ℕ) → ranks y ≡ Some r → r ≤ k → height_within p c k y ≡ Some r
  height_is zero y r ranked le =
      elim (eqb y (home_of p c)) as (λ b. eqb y (home_of p c) ≡ b → height_within p c 0 y ≡ Some r) [
        | true ↦ λ e. ranked_home 0 y r ranked e
        | false ↦ λ e.
            let away = eqb-false y (home_of p c) e in
            let h = heights.heights y r ranked in
            let f = first_on y r ranked away h.steps h.goes h.ends h.count in
            absurd (let i = f.is in omega arith)
      ] refl
  height_is (suc k) y r ranked le =
      elim (eqb y (home_of p c)) as (λ b. eqb y (home_of p c) ≡ b → height_within p c (suc k) y ≡ Some r) [
        | true ↦ λ e. ranked_home (suc k) y r ranked e
        | false ↦ λ e.
            let away = eqb-false y (home_of p c) e in
            let h = heights.heights y r ranked in
            let f = first_on y r ranked away h.steps h.goes h.ends h.count in
            let i = f.is in
            let ends = far_ends p c y in
            let each : (z : ℕ) → Among z ends → IsKnown (height_within p c k z) f.rank = λ z m.
            let l = leads_to p c y z m in
            let low = one_lower y r l.group z ranked away l.listed l.leads in
            let b = low.below in
            record { value = low.rank; known = height_is k z low.rank low.ranked (omega arith); few = omega arith } in
            let top = greatest_known (height_within p c k) ends f.rank each in
            let there = among_ends p c y f.to f.leads in
            let one = each_known (height_within p c k) ends top.value f.to top.known there in
            let known = height_is k f.to f.rank f.ranked (omega arith) in
            let same : one.value ≡ f.rank = let a = one.known in cc in
            let u = top.few in
            let v = one.few in
            height-away p c k y away ∙ one_above_is (height_within p c k) ends f.to top.value there top.known ∙ ap (λ n. Some n) (let q : suc top.value ≡ r = omega arith in q)
      ] refl
