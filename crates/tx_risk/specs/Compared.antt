-- What outages cut off in one of two plans, beside the other one.
use Rattle.std.specs.Prelude.{◌≡◌, ◌⊎◌, ◌<◌, ℕ, if◌then◌else◌, Bool, true, false, not, ◌&&◌, ◌==◌, List, [], Option, None, Some, option_map, position, slice_get}
use Rattle.std.specs.List.{find, list_any}
use Rattle.std.specs.Option.{option_map_or, option_and_then}
use Rattle.tx_plan.specs.Plan.{Plan, exchange_name, exchange_named, figures_of, code_named, group_name, group_named}
use Rattle.tx_plan.specs.Rules.{EachPair}
use Rattle.tx_risk.specs.declared.outage.Outage.{Outage}
use Rattle.tx_risk.specs.declared.outage.Outage.TheVariants.{Group, Exchange, Named}
use Rattle.tx_risk.specs.declared.cut.Cut.{Cut}
use Rattle.tx_risk.specs.declared.cut.Leg.{Leg}
use Rattle.tx_risk.specs.declared.cut.Outcome.{Outcome}
use Rattle.tx_risk.specs.NamedRisks.{NamedRisk}
use Rattle.tx_risk.specs.Outages.{all_outages, start_at}

-- one of the two plans, and what its outages come to
pub record Side (A : Type 0) : Type 0 where
  pub plan : Plan
  pub outcomes : List (Outcome A)

-- the outage of the plan p that has the name of one of the plan q; none, if p has no such group or
-- exchange
abbrev pub outage_in : (q p : Plan) → Outage → Option Outage
outage_in q p (Named i) = Some (Named i)
outage_in q p (Group g) = option_map Group (group_named p (group_name q g))
outage_in q p (Exchange x) = option_map Exchange (exchange_named p (exchange_name q x))

-- two outages are the same
abbrev pub is_outage : Outage → Outage → Bool
is_outage (Named i) (Named j) = i == j
is_outage (Group g) (Group h) = g == h
is_outage (Exchange x) (Exchange y) = x == y
is_outage o r = false

-- the place of the one that has the name, among all outages of p with these risks
abbrev pub place_in : (q p : Plan) → List NamedRisk → Outage → Option ℕ
place_in q p risks o = option_and_then
    (λ r. position (is_outage r) (all_outages p risks false)) (outage_in q p o)

module _ {A : Type 0} where
  -- what an outage of the plan q comes to on one side: nothing, where its plan does not have it
  abbrev pub outcome_in : (q : Plan) → List NamedRisk → Side A → Outage → Option (Outcome A)
  outcome_in q risks side o =
      option_and_then (slice_get side.outcomes) (place_in q side.plan risks o)

  -- whom it cuts off
  abbrev pub cuts_in : (q : Plan) → List NamedRisk → Side A → Outage → List Cut
  cuts_in q risks side o = option_map_or (λ t. t.cuts.items) (outcome_in q risks side o) []

  -- the legs of their walks
  abbrev pub legs_in : (q : Plan) → List NamedRisk → Side A → Outage → List Leg
  legs_in q risks side o = option_map_or (λ t. t.legs.items) (outcome_in q risks side o) []

-- cuts stand in order of codes, and then of where calls start
abbrev pub AreInOrder : List Cut → Type 0
AreInOrder cuts = EachPair (λ c d. (c.code < d.code) ⊎ ((c.code ≡ d.code) × (start_at c < start_at d))) cuts

-- the cut of a code from a start, as one of these is: whether it is stray; nothing, if none is
abbrev pub stray_at : List Cut → (code x : ℕ) → Option Bool
stray_at cuts code x =
    option_map (λ d. d.stray) (find (λ d. (d.code == code) && (start_at d == x)) cuts)

-- the same of these cuts of q, for a code and a start by their names
abbrev pub stray_named : (q : Plan) → List Cut → (figures start : List ℕ) → Option Bool
stray_named q cuts figures start = option_and_then
    (λ code. option_and_then (stray_at cuts code) (exchange_named q start)) (code_named q figures)

-- and for those of a cut of p
abbrev pub stray_in : (p q : Plan) → List Cut → Cut → Option Bool
stray_in p q cuts c =
    stray_named q cuts (figures_of p c.code) (exchange_name p (start_at c))

-- a cut is worse than what stands beside it: than none, or a stray one if it is not stray
abbrev pub is_worse_than : Option Bool → Cut → Bool
is_worse_than None c = true
is_worse_than (Some stray) c = stray && not c.stray

-- it is not the same: there is none, or one of the two is stray
abbrev pub is_other_than : Option Bool → Cut → Bool
is_other_than None c = true
is_other_than (Some stray) c = if stray then not c.stray else c.stray

-- somebody is worse off by these cuts of p than by those of q
abbrev pub has_worse : (p q : Plan) → (mine others : List Cut) → Bool
has_worse p q mine others = list_any (λ c. is_worse_than (stray_in p q others c) c) mine
