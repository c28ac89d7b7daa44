-- Ways to dead ends.
use Rattle.tx_risk.proofs.Common.{◌≡◌, ◌≢◌, ℕ, zero, suc, ◌<◌, true, not, List, [], ◌∷◌, ◌++◌, ◌⊎◌, inl, inr, length, Option, Some, None, refl, sym, ap, ◌∙◌, subst, arith, same_Some, cases_eq, Plan, home_of, route_list, is_origin_for, Among, among_filter, filter_among, all_mem}
use Rattle.tx_plan.specs.Certified.{Ranks, IsBelow, LeadsLower, IsCertified}
use Rattle.tx_rank.specs.Walks.{Net, AllDiffer, Goes, end_of, passed, IsShort}
use Rattle.tx_rank.proofs.Ways.{once_cons}
use Rattle.tx_risk.specs.Risks.{Risk, left_of, without, net_without, IsDeadEnd, IsCut, IsUncut, LeavesSome, LeadsHome, IsServed}

pub is_among : (y : ℕ) (xs : List ℕ) → Among y xs ⊎ (Among y xs → ⊥)
is_among y [] = inr (λ m. m)
is_among y (x ∷ xs) = elim (cases_eq x y) [
  | inl e ↦ inl (inl e)
  | inr ne ↦ elim (is_among y xs) [
    | inl m ↦ inl (inr m)
    | inr n ↦
        inr (λ m. elim m [ inl q ↦ ne q | inr k ↦ n k ])
  ]
]

none_short : (xs : List ℕ) → length xs < 1 → xs ≡ []
none_short [] h = refl
none_short (x ∷ xs) h = absurd (omega arith)

module _ (n : Net) where
  -- the rest of a way, from an exchange that it passes
  from_passed : (x : ℕ) (steps : List (ℕ × ℕ)) (y : ℕ) → Goes n x steps → AllDiffer (passed x steps)
      → Among y (passed x steps) → (rest : List (ℕ × ℕ)) × Goes n y rest
      × (end_of y rest ≡ end_of x steps) × AllDiffer (passed y rest)
  from_passed x [] y g d (inl e) =
      subst (λ z. (rest : List (ℕ × ℕ)) × Goes n z rest × (end_of z rest ≡ x)
      × AllDiffer (passed z rest)) e ([], g, refl, d)
  from_passed x [] y g d (inr m) = absurd m
  from_passed x (s ∷ steps) y g d (inl e) =
      subst (λ z. (rest : List (ℕ × ℕ)) × Goes n z rest × (end_of z rest ≡ end_of x (s ∷ steps))
      × AllDiffer (passed z rest)) e (s ∷ steps, g, refl, d)
  from_passed x (s ∷ steps) y g d (inr m) = from_passed s.1 steps y g.3 d.1 m

  -- a way on which nothing repeats, to the same end
  pub shorten : (x : ℕ) (steps : List (ℕ × ℕ)) → Goes n x steps → (short : List (ℕ × ℕ))
      × Goes n x short × (end_of x short ≡ end_of x steps) × AllDiffer (passed x short)
  shorten x [] g = ([], tt, refl, (tt, tt))
  shorten x (s ∷ steps) g =
      let r = shorten s.1 steps g.3 in
      elim (is_among x (passed s.1 r.0)) [
        | inl m ↦ let q = from_passed s.1 r.0 x r.1 r.3 m in (q.0, q.1, q.2 ∙ r.2, q.3)
        | inr apart ↦ (s ∷ r.0, (g.0, g.1, g.2, r.1), r.2, once_cons x (passed s.1 r.0) apart r.3)
      ]

  pub dead_end_cut : (x : ℕ) (steps : List (ℕ × ℕ)) → IsDeadEnd n x steps → (short : List (ℕ × ℕ))
      × IsCut n x short
  dead_end_cut x steps h =
      let r = shorten x steps h.goes in (
        r.0,
        record {
          dead = record {
            goes = r.1;
            away = λ e. h.away (sym r.2 ∙ e);
            none = ap n.list r.2 ∙ h.none;
          };
          once = r.3;
        },
      )

  goes_then : (x : ℕ) (steps ways : List (ℕ × ℕ)) → Goes n x steps → Goes n (end_of x steps) ways
      → Goes n x (steps ++ ways)
  goes_then x [] ways g k = k
  goes_then x (s ∷ steps) ways g k = (g.0, g.1, g.2, goes_then s.1 steps ways g.3 k)

  end_then : (x : ℕ) (steps ways : List (ℕ × ℕ)) → end_of x (steps ++ ways)
      ≡ end_of (end_of x steps) ways
  end_then x [] ways = refl
  end_then x (s ∷ steps) ways = end_then s.1 steps ways

  pub dead_end_from : (x : ℕ) (steps ways : List (ℕ × ℕ)) → Goes n x steps
      → IsDeadEnd n (end_of x steps) ways → IsDeadEnd n x (steps ++ ways)
  dead_end_from x steps ways g d =
      let e = end_then x steps ways in
      record {
        goes = goes_then x steps ways g d.goes;
        away = λ q. d.away (sym e ∙ q);
        none = ap n.list e ∙ d.none;
      }

pub cut_short : (risk : Risk) (n : Net) (x : ℕ) (steps : List (ℕ × ℕ)) → n.is_origin x ≡ true
    → IsCut (without risk n) x steps → IsShort (without risk n) 0 x steps
cut_short risk n x steps o c = record {
  walk = record { origin = o; goes = c.dead.goes };
  once = c.once;
  away = c.dead.away;
  few = let e = ap length c.dead.none in omega arith;
}

pub short_cut : (risk : Risk) (n : Net) (x : ℕ) (steps : List (ℕ × ℕ))
    → IsShort (without risk n) 0 x steps → IsCut (without risk n) x steps
short_cut risk n x steps s =
    record {
      dead = record { goes = s.walk.goes; away = s.away; none = none_short _ s.few };
      once = s.once;
    }

module _ (p : Plan) (risk : Risk) (code : ℕ) where
  pub uncut_on : (x : ℕ) (steps : List (ℕ × ℕ)) → IsUncut p risk code x
      → Goes (net_without p risk code) x steps → IsUncut p risk code (end_of x steps)
  uncut_on x steps u g ways c =
      let n = net_without p risk code in
      let r = dead_end_cut n x (steps ++ ways) (dead_end_from n x steps ways g c.dead) in
      u r.0 r.1

  -- no way leads to a dead end
  pub no_dead_end : (x : ℕ) (steps : List (ℕ × ℕ)) → IsUncut p risk code x
      → IsDeadEnd (net_without p risk code) x steps → ⊥
  no_dead_end x steps u d = let r = dead_end_cut (net_without p risk code) x steps d in u r.0 r.1

  module _ (ranks : Ranks) (limit spare : ℕ) (cert : IsCertified p ranks limit spare)
      (within : code < length p.codes) where
    below_some : (o : Option ℕ) (r : ℕ) → IsBelow o r → (m : ℕ) × (o ≡ Some m)
    below_some None r b = absurd b
    below_some (Some m) r b = (m, refl)

    pub ranked_on : (x r : ℕ) (steps : List (ℕ × ℕ)) → ranks code x ≡ Some r
        → Goes (net_without p risk code) x steps → (q : ℕ) × (ranks code (end_of x steps) ≡ Some q)
    ranked_on x r [] e g = (r, e)
    ranked_on x r (s ∷ steps) e g =
        let listed = (filter_among (λ g. not (risk g)) s.0 (route_list p x code) g.1).0 in
        let l = all_mem (LeadsLower p ranks code x r) (route_list p x code) s.0
        (cert.lists code x r within e g.0).each listed in
        let same : l.to ≡ s.1 = same_Some _ _ (sym l.leads ∙ g.2) in
        let k = below_some (ranks code l.to) r l.lower in
        ranked_on s.1 k.0 steps (subst (λ z. ranks code z ≡ Some k.0) same k.1) g.3

    pub ranked_uncut : LeavesSome p ranks risk code → (x : ℕ) → is_origin_for p x code ≡ true
        → IsUncut p risk code x
    ranked_uncut leaves x o steps c =
        let a = cert.origins code x within o in
        let q = ranked_on x a.0 steps a.1 c.dead.goes in
        let g = leaves (end_of x steps) q.0 q.1 c.dead.away in
        subst (Among g.0) c.dead.none
        (among_filter (λ g. not (risk g)) g.0 (route_list p (end_of x steps) code) g.1
        (ap not g.2))

    -- on from an exchange that is not cut
    home_below : (n x r : ℕ) → r < n → ranks code x ≡ Some r → IsUncut p risk code x
        → LeadsHome (net_without p risk code) x
    home_below zero x r less e u = absurd (omega arith)
    home_below (suc n) x r less e u = elim (cases_eq x (home_of p code)) [
      | inl here ↦ record { steps = []; goes = tt; home = here }
      | inr away ↦ at (left_of risk (route_list p x code)) refl away
          (λ y q l f u. home_below n y q l f u)
    ]
      where
        below : (o : Option ℕ) → IsBelow o r → (m : ℕ) × (o ≡ Some m) × (m < r)
        below None b = absurd b
        below (Some m) b = (m, refl, b)

        at : (left : List ℕ) → left_of risk (route_list p x code) ≡ left → x ≢ home_of p code
            → ((y q : ℕ) → q < n → ranks code y ≡ Some q → IsUncut p risk code y
            → LeadsHome (net_without p risk code) y) → LeadsHome (net_without p risk code) x
        at [] q away later =
            absurd (no_dead_end x [] u (record { goes = tt; away = away; none = q }))
        at (g ∷ gs) q away later =
            let m : Among g (left_of risk (route_list p x code)) =
            subst (Among g) (sym q) (inl refl) in
            let l = all_mem (LeadsLower p ranks code x r) (route_list p x code) g
            (cert.lists code x r within e away).each
            (filter_among (λ g. not (risk g)) g (route_list p x code) m).0 in
            let k = below (ranks code l.to) l.lower in
            let on = uncut_on x ((g, l.to) ∷ []) u (away, m, l.leads, tt) in
            let b = k.2 in
            let rest = later l.to k.0 (omega arith) k.1 on in
            record {
              steps = (g, l.to) ∷ rest.steps;
              goes = (away, m, l.leads, rest.goes);
              home = rest.home;
            }

    pub uncut_served : (x : ℕ) → is_origin_for p x code ≡ true → IsUncut p risk code x
        → IsServed p risk code x
    uncut_served x o u steps g =
        let a = cert.origins code x within o in
        let q = ranked_on x a.0 steps a.1 g in
        home_below (suc q.0) (end_of x steps) q.0 (omega arith) q.1 (uncut_on x steps u g)

-- no way leads on from a dead end
pub served_uncut : (p : Plan) (risk : Risk) (code x : ℕ) → IsServed p risk code x
    → IsUncut p risk code x
served_uncut p risk code x served steps c = at (served steps c.dead.goes)
  where
    at : LeadsHome (net_without p risk code) (end_of x steps) → ⊥
    at h = on h.steps h.goes h.home
      where
        on : (ways : List (ℕ × ℕ)) → Goes (net_without p risk code) (end_of x steps) ways
            → end_of (end_of x steps) ways ≡ home_of p code → ⊥
        on [] g e = c.dead.away e
        on (s ∷ ways) g e = subst (Among s.0) c.dead.none g.1
