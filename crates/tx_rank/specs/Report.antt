-- The report of a ranking, as it is written.
use Rattle.std.specs.Prelude.{ℕ, ◌==◌, if◌then◌else◌, List, [], ◌++◌, length, codes, decimal}
use Rattle.std.specs.List.{flat_map}
use Rattle.tx_plan.specs.Plan.{Plan, exchange_name, figures_of, group_name}
use Rattle.tx_rank.specs.Walks.{Walk}
use Rattle.tx_rank.specs.declared.finding.Finding.{Finding}
use Rattle.tx_rank.specs.declared.finding.Finding.TheVariants.{Ambiguous, Loop, Short, Long}
use Rattle.tx_rank.specs.declared.ranking.Ranking.{Ranking}
use Rattle.tx_rank.specs.declared.ranking.Ranking.TheVariants.{Found, Fails}

-- the first line of a report: its word, and the limit and the spare number that were asked
abbrev pub asked_line : (word : List ℕ) → (limit spare : ℕ) → List ℕ
asked_line word limit spare = word
    ++ (codes " LIMIT " ++ (decimal limit ++ (codes " SPARE " ++ (decimal spare ++ codes "\n"))))

-- a step of a walk: by a group to an exchange
abbrev pub step_text : Plan → ℕ × ℕ → List ℕ
step_text p s = codes " " ++ (group_name p s.0 ++ (codes " " ++ exchange_name p s.1))

-- a code and a walk: its exchanges, with the groups between them
abbrev pub walk_text : Plan → ℕ → Walk → List ℕ
walk_text p code w = figures_of p code ++ (codes " VIA "
    ++ (exchange_name p w.start ++ (flat_map (step_text p) w.steps ++ codes "\n")))

module _ {A : Type 0} where
  -- what was found: nothing where there is a certificate
  abbrev pub findings_of : Ranking A → List (Finding A)
  findings_of (Found cert) = []
  findings_of (Fails findings) = findings.items

  -- a finding: a pair of codes, or a code and a walk
  abbrev pub finding_line : Plan → Finding A → List ℕ
  finding_line p (Ambiguous a b) = codes "F1 AMBIGUOUS "
      ++ (figures_of p a ++ (codes " " ++ (figures_of p b ++ codes "\n")))
  finding_line p (Loop code w) = codes "F2 LOOP " ++ walk_text p code w
  finding_line p (Short code w) = codes "F3 SHORT " ++ walk_text p code w
  finding_line p (Long code w) = codes "F4 LONG " ++ walk_text p code w

-- No, with the number of the lines before
abbrev pub no_line : ℕ → List ℕ
no_line n = codes "VERDICT NO " ++ (decimal n ++ codes "\n")

-- Yes, or No with the number of findings
abbrev pub verdict_line : ℕ → List ℕ
verdict_line n = if n == 0 then codes "VERDICT YES\n" else no_line n

-- a line for each finding, and the verdict
abbrev pub findings_text : {A : Type 0} → Plan → List (Finding A) → List ℕ
findings_text p findings = flat_map (finding_line p) findings ++ verdict_line (length findings)

-- The report with this first word: what was asked, a line for each finding, and the verdict
abbrev pub report : {A : Type 0} → (word : List ℕ) → Plan → (limit spare : ℕ)
    → List (Finding A) → List ℕ
report word p limit spare findings = asked_line word limit spare ++ findings_text p findings
