-- What a search for outages answers.
use Rattle.std.specs.Prelude.{ℕ, List}
use Rattle.tx_plan.specs.Plan.{Plan}
use Rattle.tx_rank.specs.declared.plan_grade.Grade.{Grade}
use Rattle.tx_rank.specs.Grades.{CanBeCertified}
use Rattle.tx_risk.specs.declared.cut.Outcome.{Outcome}
use Rattle.tx_risk.specs.declared.surviving.Survival.{Survival}
use Rattle.tx_risk.specs.declared.surviving.Survival.TheVariants.{Tried, Ungraded}

-- the plan has a grade: some ranks certify it, with some limit and spare number
abbrev pub HasGrade : Plan → Type 0
HasGrade p = (limit : ℕ) × (spare : ℕ) × CanBeCertified p limit spare

module _ {A : Type 0} where
  -- all outages were tried
  abbrev pub AreTried : Survival A → Type 0
  AreTried (Tried outcomes) = Unit {0}
  AreTried (Ungraded grade) = ⊥

  -- it holds of what they came to, if they were tried
  abbrev pub OnTried : (List (Outcome A) → Type 0) → Survival A → Type 0
  OnTried Holds (Tried outcomes) = Holds outcomes.items
  OnTried Holds (Ungraded grade) = Unit {0}

  -- it holds of what is reported in place of a grade, if the plan has none
  abbrev pub OnUngraded : (Grade A → Type 0) → Survival A → Type 0
  OnUngraded Holds (Tried outcomes) = Unit {0}
  OnUngraded Holds (Ungraded grade) = Holds grade
