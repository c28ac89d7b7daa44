-- A code of which some group of each list is left is cut off from nowhere.
use Rattle.tx_risk.proofs.Common.{◌≡◌, ◌≢◌, ℕ, ◌+◌, ◌<◌, ◌⊎◌, ◌==◌, true, false, not, ◌&&◌, List, [], ◌∷◌, inl, inr, length, Option, Some, None, refl, sym, ap, ◌∙◌, subst, arith, eq-eqb, and_parts, both_ways, not-true, ne_eqb, eqb-false, cases_eq, slice_get, filter, is_some, if◌then◌else◌, option_and_then, option_map_or, list_any, route_list, is_origin_for, Ranks, IsCertified, Among, filter_among, among_filter, none_any, Goes, end_of, is_net, Leg, Outage, Group, Exchange, Named, NamedRisk, risk_of, fails_at, Left, IsLeft, gone, left_net, IsByRank, AreDeadEnds, AreCuts, AreEnds, TakesItsGroups, is_emptied}
use Rattle.tx_plan.specs.Plan.{Plan, Group as Row, home_of}
use Rattle.tx_plan.specs.Circuits.{other_end, far_end, ends_of}
use Rattle.tx_risk.specs.Risks.{Risk, groups_of, left_of, net_without}
use Rattle.tx_risk.proofs.Ways.{ranked_on}
use Rattle.tx_risk.proofs.LeftLists.{left_goes, left_none, none_left, listed_away}
use Rattle.tx_risk.proofs.AddedOutages.{end_known}

-- an exchange to which a group leads is an end of it
far_is_end : (p : Plan) (g x y : ℕ) → other_end p g x ≡ Some y → is_some (other_end p g y) ≡ true
far_is_end p g x y e = at (slice_get p.groups g) e
  where
    first : (r : Row) → r.a ≡ y → is_some (far_end r y) ≡ true
    first r q = let t = eq-eqb r.a y q in rw t refl

    second : (r : Row) → r.b ≡ y → is_some (far_end r y) ≡ true
    second r q =
        let t = eq-eqb r.b y q in
        elim (r.a == y) as (λ b. is_some
        (if b then Some r.b else if r.b == y then Some r.a else None) ≡ true) [
          | true ↦ refl
          | false ↦ rw t refl
        ]

    end : (r : Row) → far_end r x ≡ Some y → is_some (far_end r y) ≡ true
    end r e =
        elim (r.a == x) as (λ b. (if b then Some r.b else if r.b == x then Some r.a else None)
        ≡ Some y
        → is_some (far_end r y) ≡ true) [
          | true ↦ λ e. let q : r.b ≡ y = cc in second r q
          | false ↦ λ e. elim (r.b == x) as (λ b. (if b then Some r.a else None) ≡ Some y
              → is_some (far_end r y) ≡ true) [
                | true ↦ λ e. let q : r.a ≡ y = cc in first r q
                | false ↦ λ e. let bad : ⊥ = cc in absurd bad
              ] e
        ] e

    at : (o : Option Row) → option_and_then (λ r. far_end r x) o ≡ Some y
        → is_some (option_and_then (λ r. far_end r y) o) ≡ true
    at None e = let bad : ⊥ = cc in absurd bad
    at (Some r) e = end r e

-- the ends of the groups that go, one group after another
abbrev ends_in : Option Row → ℕ × ℕ
ends_in o = option_map_or (λ (r : Row). (r.a, r.b)) o (0, 0)

either_end : (p : Plan) (g x : ℕ) → is_some (other_end p g x) ≡ true
    → (x ≡ (ends_of p g).0) ⊎ (x ≡ (ends_of p g).1)
either_end p g x t = at (slice_get p.groups g) t
  where
    at : (o : Option Row) → is_some (option_and_then (λ r. far_end r x) o) ≡ true
        → (x ≡ (ends_in o).0) ⊎ (x ≡ (ends_in o).1)
    at None t = let bad : ⊥ = cc in absurd bad
    at (Some r) t = elim (cases_eq r.a x) [
      | inl q ↦ inl (sym q)
      | inr ne ↦ elim (cases_eq r.b x) [
        | inl q ↦ inr (sym q)
        | inr away ↦
            let a = ne_eqb r.a x ne in
            let b = ne_eqb r.b x away in
            let none : is_some (far_end r x) ≡ false = rw (a, b) refl in
            absurd (both_ways _ none t)
      ]
    ]

pub ends_skip : (p : Plan) (risk : Risk) (i : ℕ) (ends : List ℕ) → AreEnds p risk i ends
    → risk i ≡ false → AreEnds p risk (i + 1) ends
ends_skip p risk i ends before out = λ g x less r end. elim (cases_eq g i) [
  | inl q ↦ absurd (both_ways _ out (ap risk (sym q) ∙ r))
  | inr ne ↦ before g x (omega arith) r end
]

pub ends_more : (p : Plan) (risk : Risk) (i : ℕ) (old new : List ℕ) (both : ℕ × ℕ)
    → AreEnds p risk i old → both ≡ ends_of p i → ((x : ℕ) → Among x old → Among x new)
    → Among both.0 new → Among both.1 new → AreEnds p risk (i + 1) new
ends_more p risk i old new both before is stays first second =
    λ g x less r end. elim (cases_eq g i) [
      | inl q ↦ elim (either_end p i x (subst (λ h. is_some (other_end p h x) ≡ true) q end)) [
        | inl e ↦ subst (λ y. Among y new) (ap (λ (b : ℕ × ℕ). b.0) is ∙ sym e) first
        | inr e ↦ subst (λ y. Among y new) (ap (λ (b : ℕ × ℕ). b.1) is ∙ sym e) second
      ]
      | inr ne ↦ stays x (before g x (omega arith) r end)
    ]

-- by the groups that are left no way comes to an exchange that fails
avoids : (p : Plan) (risk : Risk) (code e x : ℕ) (steps : List (ℕ × ℕ))
    → ((g : ℕ) → groups_of p e g ≡ true → risk g ≡ true) → x ≢ e
    → Goes (net_without p risk code) x steps → end_of x steps ≢ e
avoids p risk code e x [] takes away g = away
avoids p risk code e x (s ∷ steps) takes away g =
    avoids p risk code e s.1 steps takes (λ q.
    let m = filter_among (λ h. not (risk h)) s.0 (route_list p x code) g.1 in
    both_ways _ (not-true _ m.1)
    (takes s.0 (subst (λ y. is_some (other_end p s.0 y) ≡ true) q (far_is_end p s.0 x s.1 g.2))))
    g.3

not_failing : (p : Plan) (risk : Risk) (o : Outage) (code x : ℕ) (steps : List (ℕ × ℕ))
    → TakesItsGroups p risk o → fails_at o x ≡ false → Goes (net_without p risk code) x steps
    → fails_at o (end_of x steps) ≡ false
not_failing p risk (Group h) code x steps takes f g = refl
not_failing p risk (Exchange e) code x steps takes f g =
    ne_eqb (end_of x steps) e (avoids p risk code e x steps takes (eqb-false x e f) g)
not_failing p risk (Named i) code x steps takes f g = refl

-- all groups of an exchange are those that go with it
pub takes : (p : Plan) (risks : List NamedRisk) (o : Outage)
    → TakesItsGroups p (risk_of p risks o) o
takes p risks (Group h) = tt
takes p risks (Exchange x) = λ g t. t
takes p risks (Named i) = tt

module _ (l : Left) (is : IsLeft l) (ends : List ℕ) (all : AreEnds l.plan (gone l) (length l.plan.groups) ends) where
  -- a list of which nothing is left is that of an end of a group that goes
  emptied_there : (x : ℕ) → route_list l.plan x l.code ≢ []
      → left_of (gone l) (route_list l.plan x l.code) ≡ [] → Among x (filter (is_emptied l) ends)
  emptied_there x some none = at (route_list l.plan x l.code) refl
    where
      at : (gs : List ℕ) → route_list l.plan x l.code ≡ gs → Among x (filter (is_emptied l) ends)
      at [] e = absurd (some e)
      at (g ∷ gs) e =
          let m : Among g (route_list l.plan x l.code) = subst (Among g) (sym e) (inl refl) in
          let to = (is_net l.plan is.rules l.code is.code).leads x g m in
          let end : is_some (other_end l.plan g x) ≡ true = ap is_some to.1 in
          let goes = left_goes (gone l) (route_list l.plan x l.code) g none m in
          let here = all g x (end_known l.plan g x end) goes end in
          let empty = none_left (gone l) (route_list l.plan x l.code) none in
          let long = ne_eqb (length (route_list l.plan x l.code)) 0
          (λ z. let k = ap length e in omega arith) in
          among_filter (is_emptied l) x ends here (rw (empty, long) refl)

  module _ (ranks : Ranks) (limit spare : ℕ) (cert : IsCertified l.plan ranks limit spare) where
    ranked_there : (x r : ℕ) → ranks l.code x ≡ Some r → x ≢ home_of l.plan l.code
        → left_of (gone l) (route_list l.plan x l.code) ≡ [] → Among x (filter (is_emptied l) ends)
    ranked_there x r ranked away none =
        let d = cert.lists l.code x r is.code ranked away in
        emptied_there x (λ e. let n = d.enough in let few = ap length e in omega arith) none

    -- those that are emptied are the dead ends
    pub emptied_dead : (order : List ℕ) → IsByRank (ranks l.code) order
        → AreDeadEnds (left_net l) order (filter (is_emptied l) ends)
    emptied_dead order by = record {
      dead = λ x m. at x (route_list l.plan x l.code) refl (filter_among (is_emptied l) x ends m).1;
      all = λ x m away none. let r = by.ranked x m in ranked_there x r.0 r.1 away none;
    }
      where
        at : (x : ℕ) (gs : List ℕ) → route_list l.plan x l.code ≡ gs → is_emptied l x ≡ true
            → (x < length l.plan.exchanges) × (x ≢ home_of l.plan l.code)
            × (left_of (gone l) (route_list l.plan x l.code) ≡ [])
        at x [] e t = absurd (let q = ap length e in both_ways (not (length (route_list l.plan x l.code) == 0)) (rw q refl)
            (and_parts (not (length (route_list l.plan x l.code) == 0)) _ t).0)
        at x (g ∷ gs) e t =
            let k = listed_away l.plan is.rules l.code x g (subst (Among g) (sym e) (inl refl)) in
            let a = (and_parts (not (length (route_list l.plan x l.code) == 0)) _ t).1 in
            (k.0, k.1, left_none (gone l) (route_list l.plan x l.code) a)

    -- where none but the exchange that fails is emptied, nobody in question is cut off
    pub unhit : (o : Outage) (legs : List Leg) → TakesItsGroups l.plan (gone l) o
        → list_any (λ x. not (fails_at o x)) (filter (is_emptied l) ends) ≡ false
        → AreCuts l o legs []
    unhit o legs takes none = record {
      each = λ c m. absurd m;
      asked = λ c m. absurd m;
      order = tt;
      all = λ x steps a c.
          let p = l.plan in
          let code = l.code in
          let t = and_parts (is_origin_for p x code)
          (not (fails_at o x) && not (fails_at o (home_of p code))) a in
          let f = and_parts (not (fails_at o x)) (not (fails_at o (home_of p code))) t.1 in
          let r = cert.origins code x is.code t.0 in
          let q = ranked_on p (gone l) code ranks limit spare cert is.code x r.0 steps r.1 c.dead.goes in
          let m = ranked_there (end_of x steps) q.0 q.1 c.dead.away c.dead.none in
          let stands = not_failing p (gone l) o code x steps takes (not-true _ f.0) c.dead.goes in
          absurd (both_ways _
          (none_any (λ x. not (fails_at o x)) (filter (is_emptied l) ends) (end_of x steps) none m)
          (ap not stands));
    }
