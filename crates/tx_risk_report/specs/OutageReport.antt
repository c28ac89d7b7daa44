-- What the outages of a plan cut off, as it is written.
use Rattle.std.specs.Prelude.{ℕ, Bool, true, false, not, ◌&&◌, ◌==◌, List, [], ◌++◌, if◌then◌else◌, length, count_by, sum_by, codes, decimal}
use Rattle.std.specs.List.{flat_map, range_with_len}
use Rattle.tx_plan.specs.Plan.{Plan, exchange_name, figures_of, group_name}
use Rattle.tx_risk.specs.declared.outage.Outage.{Outage}
use Rattle.tx_risk.specs.declared.outage.Outage.TheVariants.{Group, Exchange, Named}
use Rattle.tx_risk.specs.Outages.{steps_of}
use Rattle.tx_risk.specs.declared.cut.Cut.{Cut}
use Rattle.tx_risk.specs.declared.cut.Leg.{Leg}
use Rattle.tx_risk.specs.declared.cut.Outcome.{Outcome}
use Rattle.tx_risk.specs.declared.surviving.Survival.{Survival}
use Rattle.tx_risk.specs.declared.surviving.Survival.TheVariants.{Tried, Ungraded}
use Rattle.tx_risk.specs.NamedRisks.{NamedRisk, risk_name, names_unknown}
use Rattle.tx_risk_report.specs.declared.totals.Kind.{Kind}
use Rattle.tx_risk_report.specs.declared.totals.Kind.TheVariants.{Risks, Groups, Exchanges}
use Rattle.tx_rank.specs.Report.{step_text, verdict_line}
use Rattle.tx_rank.specs.GradeText.{grade_text}

-- how many outages were tried
abbrev pub head_line : ℕ → List ℕ
head_line n = codes "SURVIVE RISKS " ++ (decimal n ++ codes "\n")

-- the line of a risk that names groups which the plan has not
abbrev pub unknown_line : List NamedRisk → ℕ → List ℕ
unknown_line risks i = if names_unknown risks i
    then codes "RISK " ++ (risk_name risks i ++ codes " PARTLY KNOWN\n") else []

-- how many were tried, and each such risk
abbrev pub head_text : List NamedRisk → ℕ → List ℕ
head_text risks n =
    head_line n ++ flat_map (unknown_line risks) (range_with_len 0 (length risks))

-- what fails
abbrev pub outage_words : Plan → List NamedRisk → Outage → List ℕ
outage_words p risks (Group g) = codes "GROUP " ++ group_name p g
outage_words p risks (Exchange x) = codes "EXCHANGE " ++ exchange_name p x
outage_words p risks (Named i) = codes "RISK " ++ risk_name risks i

-- it is of a kind
abbrev pub is_of : Kind → Outage → Bool
is_of Risks (Named i) = true
is_of Groups (Group g) = true
is_of Exchanges (Exchange x) = true
is_of kind o = false

-- the word for outages of a kind, and its blank
abbrev pub kind_word : Kind → List ℕ
kind_word Risks = codes "RISKS "
kind_word Groups = codes "GROUPS "
kind_word Exchanges = codes "EXCHANGES "

-- the first word of a cut, and its blank
abbrev pub cut_word : (stray : Bool) → List ℕ
cut_word stray = if stray then codes "STRAY " else codes "CUT "

-- a code, the exchange where calls for it start, and the walk from there
abbrev pub start_text : Plan → List Leg → Cut → List ℕ
start_text p legs c =
    figures_of p c.code ++ (codes " " ++ (exchange_name p c.start ++ (codes " VIA "
    ++ (exchange_name p c.start ++ (flat_map (step_text p) (steps_of legs c) ++ codes "\n")))))

-- whom it cuts off
abbrev pub cut_line : Plan → List Leg → Cut → List ℕ
cut_line p legs c = cut_word c.stray ++ start_text p legs c

-- those of which the walk ends at the exchange x
abbrev pub cuts_at : Plan → List Leg → List Cut → (x : ℕ) → List ℕ
cuts_at p legs cuts x = flat_map (λ c. if c.end == x then cut_line p legs c else []) cuts

-- how many starts are cut off without a way home
abbrev pub cut_off : List Cut → ℕ
cut_off cuts = count_by (λ c. not c.stray) cuts

-- how many with one
abbrev pub astray : List Cut → ℕ
astray cuts = count_by (λ c. c.stray) cuts

-- both
abbrev pub counts_text : List Cut → List ℕ
counts_text cuts =
    codes " CUT " ++ (decimal (cut_off cuts) ++ (codes " STRAY " ++ decimal (astray cuts)))

-- how many outages of a kind cut nobody off, if some do not
abbrev pub harmless_line : Kind → ℕ → List ℕ
harmless_line kind n =
    if n == 0 then [] else kind_word kind ++ (decimal n ++ codes " CUT 0\n")

module _ {A : Type 0} where
  -- nobody is cut off
  abbrev pub is_harmless : Outcome A → Bool
  is_harmless o = length o.cuts.items == 0

  -- what fails, and how many starts it cuts off; nothing, if it cuts nobody off
  abbrev pub total_text : Plan → List NamedRisk → Outcome A → List ℕ
  total_text p risks o =
      if is_harmless o then []
      else outage_words p risks o.outage ++ (counts_text o.cuts.items ++ codes "\n")

  -- how many outages of a kind cut nobody off
  abbrev pub harmless_of : Kind → List (Outcome A) → ℕ
  harmless_of kind outcomes = count_by (λ o. is_of kind o.outage && is_harmless o) outcomes

  -- those of each kind
  abbrev pub harmless_text : List (Outcome A) → List ℕ
  harmless_text outcomes =
      harmless_line Risks (harmless_of Risks outcomes)
      ++ (harmless_line Groups (harmless_of Groups outcomes)
      ++ harmless_line Exchanges (harmless_of Exchanges outcomes))

  -- what fails, and whom it cuts off, by where their walks end; nothing, if it cuts nobody off
  abbrev pub block_text : Plan → List NamedRisk → Outcome A → List ℕ
  block_text p risks o =
      if is_harmless o then []
      else outage_words p risks o.outage ++ (codes "\n"
      ++ flat_map (cuts_at p o.legs.items o.cuts.items) (range_with_len 0 (length p.exchanges)))

  -- how many starts are cut off, by all outages
  abbrev pub count_of : List (Outcome A) → ℕ
  count_of outcomes = sum_by (λ o. length o.cuts.items) outcomes

  -- how many outages were tried, how many starts each cuts off, whom, and the verdict
  abbrev pub tried_text : Plan → List NamedRisk → List (Outcome A) → List ℕ
  tried_text p risks outcomes =
      head_text risks (length outcomes)
      ++ (flat_map (total_text p risks) outcomes
      ++ (harmless_text outcomes
      ++ (flat_map (block_text p risks) outcomes
      ++ verdict_line (count_of outcomes))))

  -- the report: of the outages that were tried; or the text of the grade, where the plan has none
  abbrev pub survival_text : Plan → List NamedRisk → Survival A → List ℕ
  survival_text p risks (Tried outcomes) = tried_text p risks outcomes.items
  survival_text p risks (Ungraded grade) = grade_text p grade
