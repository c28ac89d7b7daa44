-- Named risks: groups that go together, as those of one cable.
use Rattle.std.specs.Prelude.{◌≡◌, ◌≢◌, ℕ, ◌<◌, Bool, true, false, List, [], length, map, slice_get}
use Rattle.std.specs.List.{AllByRecursion, filter_map}
use Rattle.std.specs.Option.{option_map_or}
use Rattle.tx_text.specs.Words.{is_name}
use Rattle.tx_plan.specs.Plan.{Plan, group_name, group_named}
use Rattle.tx_plan.specs.Rules.{EachPair}

-- a name, groups by their indexes, and whether it names others too, which the plan has not
pub record NamedRisk : Type 0 where
  pub name : List ℕ
  pub groups : List ℕ
  pub unknown : Bool

-- the name of the risk at an index; nothing for an index that has none
abbrev pub risk_name : List NamedRisk → ℕ → List ℕ
risk_name risks i = option_map_or (λ r. r.name) (slice_get risks i) []

-- the groups of the risk at an index
abbrev pub named_groups : List NamedRisk → ℕ → List ℕ
named_groups risks i = option_map_or (λ r. r.groups) (slice_get risks i) []

-- the risk at an index names groups that the plan has not
abbrev pub names_unknown : List NamedRisk → ℕ → Bool
names_unknown risks i = option_map_or (λ r. r.unknown) (slice_get risks i) false

-- groups of the plan, none twice: one or more, unless it names others
pub record IsNamedRisk (p : Plan) (r : NamedRisk) : Type 0 where
  pub name : is_name r.name ≡ true
  pub some : r.unknown ≡ false → r.groups ≢ []
  pub known : AllByRecursion (λ g. g < length p.groups) r.groups
  pub differ : EachPair (λ g h. g ≢ h) r.groups

-- no name twice
pub record AreRisksFor (p : Plan) (risks : List NamedRisk) : Type 0 where
  pub each : AllByRecursion (IsNamedRisk p) risks
  pub differ : EachPair (λ r s. r.name ≢ s.name) risks

-- all their groups are the plan's
abbrev pub AreWithin : Plan → List NamedRisk → Type 0
AreWithin p risks = AllByRecursion (λ r. AllByRecursion (λ g. g < length p.groups) r.groups) risks

-- a risk of the plan q, with those of its groups that the plan p has too, by their names; whether
-- it names others is told of q
abbrev pub risk_in : (q p : Plan) → NamedRisk → NamedRisk
risk_in q p r = record {
  name = r.name;
  groups = filter_map (λ g. group_named p (group_name q g)) r.groups;
  unknown = r.unknown;
}

-- each of them so
abbrev pub risks_in : (q p : Plan) → List NamedRisk → List NamedRisk
risks_in q p risks = map (risk_in q p) risks
