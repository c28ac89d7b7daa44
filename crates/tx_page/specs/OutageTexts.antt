-- What a page shows of outages.
use Rattle.std.specs.Prelude.{ℕ, Bool, if◌then◌else◌, List, [], ◌∷◌, ◌++◌, length, codes, count_by, slice_get}
use Rattle.std.specs.List.{flat_map}
use Rattle.std.specs.Option.{option_map_or}
use Rattle.tx_plan.specs.Plan.{Plan, exchange_name, figures_of, group_name}
use Rattle.tx_risk.specs.NamedRisks.{NamedRisk, risk_name, names_unknown}
use Rattle.tx_risk.specs.declared.outage.Outage.{Outage}
use Rattle.tx_risk.specs.declared.outage.Outage.TheVariants.{Group, Exchange, Named}
use Rattle.tx_risk.specs.declared.cut.Cut.{Cut}
use Rattle.tx_risk.specs.declared.cut.Outcome.{Outcome}
use Rattle.tx_html.specs.Amounts.{amount}
use Rattle.tx_svg.specs.Indexed.{texts_below}
use Rattle.tx_risk_report.specs.OutageReport.{is_harmless, cut_off, astray}

-- what kind of thing fails
abbrev pub outage_kind : Outage → List ℕ
outage_kind (Group g) = codes "Group"
outage_kind (Exchange x) = codes "Exchange"
outage_kind (Named i) = codes "Risk"

-- the name of what fails
abbrev pub outage_name : Plan → List NamedRisk → Outage → List ℕ
outage_name p risks (Group g) = group_name p g
outage_name p risks (Exchange x) = exchange_name p x
outage_name p risks (Named i) = option_map_or (λ r. r.name) (slice_get risks i) []

-- the risk, if it names groups that the plan has not
abbrev pub unknown_texts : List NamedRisk → ℕ → List (List ℕ)
unknown_texts risks i = if names_unknown risks i then risk_name risks i ∷ [] else []

-- a code, where calls for it start, and whether they are cut off or may go astray
abbrev pub cut_texts : Plan → Cut → List (List ℕ)
cut_texts p c = figures_of p c.code ∷ exchange_name p c.start
    ∷ (if c.stray then codes "astray" else codes "cut off") ∷ []

module _ {A : Type 0} where
  -- an outage, how many starts it cuts off and may lead astray, and which
  abbrev pub outcome_texts : Plan → List NamedRisk → Outcome A → List (List ℕ)
  outcome_texts p risks o = (outage_kind o.outage ∷ outage_name p risks o.outage
      ∷ amount (cut_off o.cuts.items) ∷ amount (astray o.cuts.items) ∷ [])
      ++ flat_map (cut_texts p) o.cuts.items

  -- the same, if the outage cuts somebody off
  abbrev pub shown_texts : Plan → List NamedRisk → Outcome A → List (List ℕ)
  shown_texts p risks o = if is_harmless o then [] else outcome_texts p risks o

  -- how many outages were tried, and how many of them cut nobody off
  abbrev pub total_texts : List (Outcome A) → List (List ℕ)
  total_texts outcomes = amount (length outcomes) ∷ amount (count_by is_harmless outcomes) ∷ []

  -- the totals, the risks that are known in part, and the outages that cut somebody off, in their
  -- order
  abbrev pub tried_texts : Plan → List NamedRisk → List (Outcome A) → List (List ℕ)
  tried_texts p risks outcomes = total_texts outcomes
      ++ (texts_below (length risks) (unknown_texts risks) ++ flat_map (shown_texts p risks) outcomes)

  -- nothing of outages, where the plan has no grade
  abbrev pub outages_texts : Plan → List NamedRisk → List (Outcome A) → (graded : Bool)
      → List (List ℕ)
  outages_texts p risks outcomes graded = if graded then tried_texts p risks outcomes else []
