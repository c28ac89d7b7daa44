-- What the first sheet of a page shows of a change: both plans, the verdict, what each plan comes
-- to, and the way from the one to the other.
use Rattle.std.specs.Prelude.{ℕ, Bool, true, false, ◌||◌, if◌then◌else◌, List, [], ◌∷◌, ◌++◌, length, Option, None, Some, codes}
use Rattle.hex.specs.Hex.{encode_lower}
use Rattle.tx_plan.specs.Plan.{Plan}
use Rattle.tx_risk.specs.NamedRisks.{NamedRisk}
use Rattle.tx_risk.specs.declared.cut.Outcome.{Outcome}
use Rattle.tx_page_change.specs.declared.change.Change.{Change}
use Rattle.tx_page_change.specs.declared.numbers.Numbers.{Numbers}
use Rattle.tx_page_change.specs.declared.outlook.Outlook.{Outlook}
use Rattle.tx_page_change.specs.Counts.{circuits_in, lines_in, origins_in}
use Rattle.tx_page_change.specs.Numbers.{numbers_of, worst_of, are_worse}
use Rattle.tx_page_change.specs.RowTexts.{pair_texts, measure_texts, is_any, outcomes_texts}
use Rattle.tx_page_change.specs.WayTexts.{asked_way_texts}
use Rattle.tx_page.specs.declared.subject.Subject.{Subject}
use Rattle.tx_page.specs.Heading.{start_texts, warning_texts, verdict_texts, promise_texts}
use Rattle.tx_page.specs.OutageTexts.{outage_kind, outage_name}

-- what both plans have: exchanges, codes, groups, circuits, lists, lines, and exchanges where calls
-- start
abbrev pub sizes_texts : (old new : Plan) → List (List ℕ)
sizes_texts old new = pair_texts (length old.exchanges) (length new.exchanges)
    ++ (pair_texts (length old.codes) (length new.codes)
    ++ (pair_texts (length old.groups) (length new.groups)
    ++ (pair_texts (circuits_in old) (circuits_in new)
    ++ (pair_texts (length old.routes) (length new.routes)
    ++ (pair_texts (lines_in old) (lines_in new) ++ pair_texts (origins_in old) (origins_in new))))))

-- the limit and the spare number that are reached, how many outages cut somebody off, and how many
-- lead somebody astray
abbrev pub measures_texts : (old new : Numbers) → List (List ℕ)
measures_texts old new = measure_texts true old.limit new.limit
    ++ (measure_texts false old.spare new.spare ++ (measure_texts true old.cutting new.cutting
    ++ measure_texts true old.straying new.straying))

-- whether the new plan is worse in something
abbrev pub summary_texts : (worse : Bool) → List (List ℕ)
summary_texts worse = (if worse then codes "worse" else codes "not worse") ∷ []

-- a moment, or that it is not known
abbrev pub date_texts : Option (List ℕ) → List (List ℕ)
date_texts None = codes "unknown" ∷ []
date_texts (Some date) = date ∷ []

module _ {A : Type 0} where
  -- the worst outage of a plan, or that there is none
  abbrev pub worst_texts : Plan → List NamedRisk → Option (Outcome A) → List (List ℕ)
  worst_texts p risks None = codes "none" ∷ []
  worst_texts p risks (Some o) = outage_kind o.outage ∷ outage_name p risks o.outage ∷ []

  -- that of both, with the lines that it cuts off
  abbrev pub both_worst_texts : List NamedRisk → (old new : Outlook A) → List (List ℕ)
  both_worst_texts risks old new = worst_texts old.plan.now risks (worst_of old)
      ++ (worst_texts new.plan.now risks (worst_of new)
      ++ measure_texts true (numbers_of old).lines (numbers_of new).lines)

  -- something is worse than in the old plan
  abbrev pub is_worse_in : Change A → Bool
  is_worse_in c = are_worse (numbers_of c.old) (numbers_of c.new) || is_any c.worse

  -- what each plan comes to, and the way
  abbrev pub compared_texts : (safe : Bool) → List NamedRisk → Change A → List (List ℕ)
  compared_texts safe risks c = sizes_texts c.old.plan.now c.new.plan.now
      ++ (measures_texts (numbers_of c.old) (numbers_of c.new)
      ++ (both_worst_texts risks c.old c.new ++ (outcomes_texts c.worse c.better
      ++ asked_way_texts safe c c.switching.now)))

  -- the digests of both texts, when they were judged, and the version of the program
  abbrev pub sources_texts : Subject A → Change A → List (List ℕ)
  sources_texts s c = encode_lower c.digest ∷ encode_lower s.digest
      ∷ (date_texts c.date ++ s.version.now ∷ [])

  -- The first sheet of a change: both names, the verdict, whether the new plan is worse, the table,
  -- and what was judged
  abbrev pub decision_texts : Subject A → Change A → (safe : Bool) → List (List ℕ)
  decision_texts s c safe = start_texts s.name.now safe ++ (c.name.now ∷ []
      ++ (warning_texts (lines_in s.plan.now)
      ++ (verdict_texts safe s.limits.limit s.limits.spare
      ++ (promise_texts safe s.limits.limit s.limits.spare ++ (summary_texts (is_worse_in c)
      ++ (compared_texts safe s.risks.now c ++ sources_texts s c))))))
