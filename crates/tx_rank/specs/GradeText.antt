-- The grade of a plan, as it is written.
use Rattle.std.specs.Prelude.{ℕ, List, [], ◌++◌, Option, Some, None, codes, decimal}
use Rattle.std.specs.List.{flat_map}
use Rattle.tx_plan.specs.Plan.{Plan, figures_of}
use Rattle.tx_rank.specs.declared.bounds.Bounds.{Bounds}
use Rattle.tx_rank.specs.declared.finding.Finding.{Finding}
use Rattle.tx_rank.specs.declared.plan_grade.Grade.{Grade}
use Rattle.tx_rank.specs.Report.{findings_text}

-- a limit and a spare number, or that there are none, to the end of the line
abbrev pub bounds_text : Option Bounds → List ℕ
bounds_text None = codes " NONE\n"
bounds_text (Some b) =
    codes " LIMIT " ++ (decimal b.limit ++ (codes " SPARE " ++ (decimal b.spare ++ codes "\n")))

-- a code with its grade
abbrev pub code_line : Plan → ℕ × Option Bounds → List ℕ
code_line p c = codes "CODE " ++ (figures_of p c.0 ++ bounds_text c.1)

-- why a plan has no grade, if it has none
abbrev pub why_text : {A : Type 0} → Plan → Option Bounds → List (Finding A) → List ℕ
why_text p (Some b) findings = []
why_text p None findings = findings_text p findings

-- The text of a grade: a line for the plan, one for each code, and why if the plan has none
abbrev pub grade_text : {A : Type 0} → Plan → Grade A → List ℕ
grade_text p g = (codes "GRADE" ++ bounds_text g.plan)
    ++ (flat_map (code_line p) g.codes.items ++ why_text p g.plan g.findings.items)
