-- The command `grade`.
use Rattle.std.specs.Prelude.{◌≡◌, ◌≢◌, List, [], Option, Some, None, is_some, if◌then◌else◌, Result, Ok, Err, ℕ}
use Rattle.std.specs.List.{AllByRecursion}
use Rattle.tx_plan.specs.Plan.{Plan}
use Rattle.tx_machine.specs.Sound.{IsSound}
use Rattle.tx_rank.specs.declared.bounds.Bounds.{Bounds}
use Rattle.tx_rank.specs.declared.finding.Finding.{Finding}
use Rattle.tx_rank.specs.declared.plan_grade.Grade.{Grade}
use Rattle.tx_rank.specs.Findings.{IsTrueOf}
use Rattle.tx_rank.specs.Grades.{AreBounds, CanBeCertified, AreCodeGrades, AreUnmended}
use Rattle.tx_rank.specs.GradeText.{grade_text}
use Rattle.tx_files.specs.declared.ending.Ending.{Ending}
use Rattle.tx_files.specs.declared.fault.CommandFault.{CommandFault}
use Rattle.tx_files.specs.Faults.{memory_stop}
use Rattle.tx_files.specs.Ending.{EndsWith}
use Rattle.tx_requests.specs.Printing.{Printing, Writes}

module _ {A : Type 0} where
  -- no ranks certify the plan, whatever the limit and the spare number, and the findings say why:
  -- those that the rules list, in order, each true
  pub record IsUngraded (p : Plan) (findings : List (Finding A)) : Type 0 where
    pub nowhere : (limit spare : ℕ) → CanBeCertified p limit spare → ⊥
    pub some : findings ≢ []
    pub each : (limit spare : ℕ) → AllByRecursion (IsTrueOf p limit spare) findings
    pub listed : AreUnmended p findings

  -- the bounds with which ranks certify a plan and with which it is sound, and no findings; or that
  -- it has none
  abbrev pub IsGradeOfPlan : Plan → Option Bounds → List (Finding A) → Type 0
  IsGradeOfPlan p (Some b) findings =
      AreBounds (CanBeCertified p) b × AreBounds (IsSound p) b × (findings ≡ [])
  IsGradeOfPlan p None findings = IsUngraded p findings

  -- the grade of a plan, and those of its codes
  abbrev pub IsGradeOf : Plan → Grade A → Type 0
  IsGradeOf p g = IsGradeOfPlan p g.plan g.findings.items × AreCodeGrades p g.codes.items

  -- the plan, and its grade
  abbrev pub GradeAnswers : Plan → Result (Plan × Grade A) CommandFault → Type 0
  GradeAnswers p (Ok a) = (a.0 ≡ p) × IsGradeOf p a.1
  GradeAnswers p (Err fault) = fault ≡ memory_stop

  abbrev pub grade_prints : Plan × Grade A → Printing
  grade_prints a = Writes (grade_text a.0 a.1)

  -- status 0 if the plan has a grade
  abbrev pub GradeEnds : Plan × Grade A → Result (Ending A) CommandFault → Type 0
  GradeEnds a = EndsWith (if is_some a.1.plan then 0 else 1)
