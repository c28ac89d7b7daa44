-- One outage after another, and one code after another.
use Rattle.tx_risk.proofs.Common.{◌≡◌, ℕ, zero, suc, ◌+◌, ◌<◌, Bool, true, false, List, [], ◌∷◌, ◌++◌, map, take, get_or, length, Option, Some, None, refl, sym, ap, subst, ◌∙◌, arith, append_assoc, append-nil, eqb-true, false≢true, map-append, take_more, slice_get_within, slice_get, is_some, ◌==◌, if◌then◌else◌, option_map_or, option_and_then, list_any, range_with_len, AllByRecursion, far_end, any_mem, all_among, among_at, Cut, Leg, Outcome, Outage, Group, Exchange, Named, Risk, NamedRisk, AreRisksFor, AreWithin, named_groups, Adds, Grows}
use Rattle.std.proofs.lemmas.List.FromFn.{map-range_with_len_more}
use Rattle.tx_risk.proofs.Legs.{cuts_more}
use Rattle.tx_plan.specs.Plan.{Plan, Group as Row}
use Rattle.tx_plan.proofs.Lists.{all_put, all_map}
use Rattle.tx_risk.specs.Outages.{risk_of, all_outages, AreCutsOfCode, AreCutsBelow, IsOutcome}

-- the cuts of one code more
pub codes_next : (p : Plan) (risk : Risk) (o : Outage) (i : ℕ) (before legs : List Leg) (old new : List Cut)
    → AreCutsBelow p risk o before i old → Grows before legs → Adds (AreCutsOfCode p risk o legs i) old new
    → AreCutsBelow p risk o legs (i + 1) new
codes_next p risk o i before legs old new a g b =
    let kept = subst (λ l. AreCutsBelow p risk o l i old) (sym g.added) (cuts_more p risk o before g.more i old a) in
    subst (λ k. AreCutsBelow p risk o legs k new) (let e : suc i ≡ i + 1 = omega arith in e)
    (old, b.mine, b.added, kept, b.these)

-- what stands at one index more
pub mapped_next : {X : Type 0} (f : ℕ → X) (i : ℕ) (x : X) (front old new : List X)
    → old ≡ front ++ map f (range_with_len 0 i) → x ≡ f i → new ≡ old ++ x ∷ []
    → new ≡ front ++ map f (range_with_len 0 (i + 1))
mapped_next f i x front old new so is more =
    more ∙ (λ j. so j ++ is j ∷ []) ∙ append_assoc front (map f (range_with_len 0 i)) (f i ∷ [])
    ∙ ap (λ l. front ++ l) (sym (map-range_with_len_more f 0 i i (let e : 0 + i ≡ i = omega arith in e)))

-- one outcome more
pub outcomes_next : {A : Type 0} (p : Plan) (risks : List NamedRisk) (outages : List Outage) (i : ℕ)
    (old : List (Outcome A)) (one : Outcome A)
    → i < length outages → one.outage ≡ get_or outages i one.outage
    → map (λ (k : Outcome A). k.outage) old ≡ take i outages
    → AllByRecursion (IsOutcome p risks) old → IsOutcome p risks one
    → (map (λ (k : Outcome A). k.outage) (old ++ one ∷ []) ≡ take (i + 1) outages)
    × AllByRecursion (IsOutcome p risks) (old ++ one ∷ [])
outcomes_next p risks outages i old one low is so each last = (
  map-append (λ k. k.outage) old (one ∷ [])
      ∙ (λ j. so j ++ is j ∷ [])
      ∙ sym (take_more outages i one.outage low),
  all_put (IsOutcome p risks) old one each last,
)

-- THE GROUPS OF AN OUTAGE ARE THE PLAN'S
pub end_known : (p : Plan) (g x : ℕ)
    → is_some (option_and_then (λ r. far_end r x) (slice_get p.groups g)) ≡ true
    → g < length p.groups
end_known p g x t = at (slice_get p.groups g) refl t
  where
    at : (o : Option Row) → slice_get p.groups g ≡ o
        → is_some (option_and_then (λ r. far_end r x) o) ≡ true → g < length p.groups
    at None e t = absurd (false≢true t)
    at (Some r) e t = slice_get_within p.groups g r e

named_known : (p : Plan) (risks : List NamedRisk) → AreWithin p risks → (i g : ℕ)
    → list_any (λ h. h == g) (named_groups risks i) ≡ true → g < length p.groups
named_known p risks ok i g t = at (slice_get risks i) refl t
  where
    at : (o : Option NamedRisk) → slice_get risks i ≡ o
        → list_any (λ h. h == g) (option_map_or (λ (r : NamedRisk). r.groups) o []) ≡ true
        → g < length p.groups
    at None e t = absurd (false≢true t)
    at (Some r) e t =
        let m = any_mem (λ h. h == g) r.groups t in
        let k = all_among (λ (s : NamedRisk). AllByRecursion (λ h. h < length p.groups) s.groups) risks r ok (among_at risks i r e) in
        let same = eqb-true m.0 g m.2 in
        let l = all_among (λ h. h < length p.groups) r.groups m.0 k m.1 in
        omega arith

-- a group that fails alone is one of the plan
abbrev pub IsKnown : Plan → Outage → Type 0
IsKnown p (Group g) = g < length p.groups
IsKnown p o = Unit {0}

mapped_known : (p : Plan) (f : ℕ → Outage) (a n : ℕ)
    → ((k : ℕ) → k < a + n → IsKnown p (f k))
    → (rest : List Outage) → AllByRecursion (IsKnown p) rest
    → AllByRecursion (IsKnown p) (map f (range_with_len a n) ++ rest)
mapped_known p f a zero known rest ok = ok
mapped_known p f a (suc n) known rest ok = (
  known a (omega arith),
  mapped_known p f (a + 1) n (λ k low. known k (omega arith)) rest ok,
)

pub all_known : (p : Plan) (risks : List NamedRisk) (named_only : Bool)
    → AllByRecursion (IsKnown p) (all_outages p risks named_only)
all_known p risks named_only =
    mapped_known p Named 0 (length risks) (λ k low. tt) _ (others named_only)
  where
    exchanges : AllByRecursion (IsKnown p) (map Exchange (range_with_len 0 (length p.exchanges)))
    exchanges = subst (AllByRecursion (IsKnown p))
        (append-nil (map Exchange (range_with_len 0 (length p.exchanges))))
        (mapped_known p Exchange 0 (length p.exchanges) (λ k low. tt) [] tt)

    others : (b : Bool) → AllByRecursion (IsKnown p) (if b then []
        else map Group (range_with_len 0 (length p.groups))
        ++ map Exchange (range_with_len 0 (length p.exchanges)))
    others true = tt
    others false =
        mapped_known p Group 0 (length p.groups) (λ k low. omega arith) _ exchanges

pub outage_known : (p : Plan) (risks : List NamedRisk) → AreWithin p risks → (o : Outage)
    → IsKnown p o → (g : ℕ) → risk_of p risks o g ≡ true → g < length p.groups
outage_known p risks ok (Group h) known g t =
    let same = eqb-true g h t in omega arith
outage_known p risks ok (Exchange x) known g t = end_known p g x t
outage_known p risks ok (Named i) known g t = named_known p risks ok i g t

-- the groups of the risks of a plan are the plan's
pub risks_within : (p : Plan) (risks : List NamedRisk) → AreRisksFor p risks → AreWithin p risks
risks_within p risks ok = all_map risks (λ r k. k.known) ok.each
