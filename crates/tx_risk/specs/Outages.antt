-- Outages: what each group, each exchange and each named risk cuts off if it goes alone.
use Rattle.std.specs.Prelude.{◌≡◌, ◌↔◌, ℕ, zero, suc, ◌<◌, ◌≤◌, Bool, true, false, not, ◌&&◌, ◌==◌, if◌then◌else◌, List, [], ◌∷◌, ◌++◌, map, length, Option, None, Some, slice_get}
use Rattle.std.specs.List.{list_any, range_with_len, AllByRecursion}
use Rattle.tx_plan.specs.Plan.{Plan, home_of}
use Rattle.tx_plan.specs.Rules.{EachPair}
use Rattle.tx_plan.specs.Routes.{is_origin_for}
use Rattle.tx_plan.specs.Among.{Among}
use Rattle.tx_rank.specs.Walks.{Net, end_of}
use Rattle.tx_risk.specs.declared.outage.Outage.{Outage}
use Rattle.tx_risk.specs.declared.outage.Outage.TheVariants.{Group, Exchange, Named}
use Rattle.tx_risk.specs.declared.cut.Cut.{Cut}
use Rattle.tx_risk.specs.declared.cut.Leg.{Leg}
use Rattle.tx_risk.specs.declared.cut.Outcome.{Outcome}
use Rattle.tx_risk.specs.Risks.{Risk, groups_of, net_without, IsCut, LeadsHome}
use Rattle.tx_risk.specs.NamedRisks.{NamedRisk, named_groups}

-- which groups go with it: the one group; all groups of which the exchange is an end; those of the
-- named risk
abbrev pub risk_of : Plan → List NamedRisk → Outage → Risk
risk_of p risks (Group g) = λ h. h == g
risk_of p risks (Exchange x) = groups_of p x
risk_of p risks (Named i) = λ h. list_any (λ g. g == h) (named_groups risks i)

-- the exchange is the one that fails
abbrev pub fails_at : Outage → ℕ → Bool
fails_at (Exchange x) y = y == x
fails_at other y = false

-- Calls for the code may start at x, and they are in question: not those that start at an exchange
-- that fails, nor those for a code that is at home there.
abbrev pub is_asked : Plan → Outage → (code x : ℕ) → Bool
is_asked p o code x =
    is_origin_for p x code && (not (fails_at o x) && not (fails_at o (home_of p code)))

-- the step of a leg, and then others from the place that it tells
abbrev pub step_then : Option Leg → (ℕ → List (ℕ × ℕ)) → List (ℕ × ℕ)
step_then None others = []
step_then (Some leg) others = (leg.group, leg.to) ∷ others leg.next

-- so many steps by the legs, from a place on
abbrev pub steps_from : List Leg → (count place : ℕ) → List (ℕ × ℕ)
steps_from legs zero place = []
steps_from legs (suc n) place = step_then (slice_get legs place) (steps_from legs n)

-- those from where calls start that are cut off
abbrev pub steps_of : List Leg → Cut → List (ℕ × ℕ)
steps_of legs c = steps_from legs c.steps c.first

-- What is cut off: where calls start, and a shortest way from there to a dead end; stray, if a
-- way home is left too.
pub record IsCutAs (n : Net) (code : ℕ) (legs : List Leg) (c : Cut) : Type 0 where
  pub of_code : c.code ≡ code
  pub cut : IsCut n c.start (steps_of legs c)
  pub long : length (steps_of legs c) ≡ c.steps
  pub ends : end_of c.start (steps_of legs c) ≡ c.end
  pub shortest : (steps : List (ℕ × ℕ)) → IsCut n c.start steps → c.steps ≤ length steps
  pub stray : c.stray ≡ true ↔ LeadsHome n c.start

-- where the calls start that are cut off
abbrev pub start_at : Cut → ℕ
start_at c = c.start

-- of one code: one for each exchange in question from where there is a cut, in order of the
-- exchanges
pub record AreCutsOfCode (p : Plan) (risk : Risk) (o : Outage) (legs : List Leg) (code : ℕ)
    (cuts : List Cut) : Type 0 where
  pub each : (c : Cut) → Among c cuts → IsCutAs (net_without p risk code) code legs c
  pub asked : (c : Cut) → Among c cuts → is_asked p o code (start_at c) ≡ true
  pub order : EachPair (λ x y. x < y) (map start_at cuts)
  pub all : (x : ℕ) (steps : List (ℕ × ℕ)) → is_asked p o code x ≡ true
      → IsCut (net_without p risk code) x steps → Among x (map start_at cuts)

-- of the codes before c, in order of the codes
abbrev pub AreCutsBelow : Plan → Risk → Outage → List Leg → (c : ℕ) → List Cut → Type 0
AreCutsBelow p risk o legs zero cuts = cuts ≡ []
AreCutsBelow p risk o legs (suc c) cuts =
    (front : List Cut) × (last : List Cut) × (cuts ≡ front ++ last)
    × AreCutsBelow p risk o legs c front × AreCutsOfCode p risk o legs c last

-- All outages, in order: the named risks, the groups, the exchanges; or the named risks alone
abbrev pub all_outages : Plan → List NamedRisk → (named_only : Bool) → List Outage
all_outages p risks named_only =
    map Named (range_with_len 0 (length risks))
    ++ (if named_only then [] else map Group (range_with_len 0 (length p.groups))
    ++ map Exchange (range_with_len 0 (length p.exchanges)))

module _ {A : Type 0} where
  -- whom its outage cuts off
  abbrev pub IsOutcome : Plan → List NamedRisk → Outcome A → Type 0
  IsOutcome p risks o = AreCutsBelow p (risk_of p risks o.outage) o.outage o.legs.items
      (length p.codes) o.cuts.items

  -- The answer: each outage, and whom it cuts off
  pub record AreOutcomes (p : Plan) (risks : List NamedRisk) (named_only : Bool)
      (outcomes : List (Outcome A)) : Type 0 where
    pub outages : map (λ o. o.outage) outcomes ≡ all_outages p risks named_only
    pub each : AllByRecursion (IsOutcome p risks) outcomes
