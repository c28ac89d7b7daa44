-- Two plans of which one follows the other.
use Rattle.std.specs.Prelude.{ℕ, ◌+◌, ◌<◌, List, []}
use Rattle.tx_plan.specs.Plan.{Plan}
use Rattle.tx_page_change.specs.ChangeTexts.{stage_title}
use Rattle.tx_page_change.specs.StepTexts.{bare, alone_in}
use Rattle.tx_order.specs.Ordered.{plan_before, stages_in}
use Rattle.tx_page_change.specs.declared.between.Between.{Between}
use Rattle.tx_page_change.specs.declared.between.Between.TheVariants.{Stage, Plans, New, Gone}

module _ {A : Type 0} where
  -- the plan before
  abbrev pub before_of : Between A → Plan
  before_of (Stage order stage) = plan_before order.now stage
  before_of (Plans old new) = old.now
  before_of (New plan other) = bare plan.now
  before_of (Gone plan other) = alone_in plan.now other.now

  -- and the plan after it
  abbrev pub after_of : Between A → Plan
  after_of (Stage order stage) = plan_before order.now (stage + 1)
  after_of (Plans old new) = new.now
  after_of (New plan other) = alone_in plan.now other.now
  after_of (Gone plan other) = bare plan.now

  -- its title, as far as it has numbers
  abbrev pub title_of : Between A → List (List ℕ)
  title_of (Stage order stage) = stage_title order.now stage
  title_of (Plans old new) = []
  title_of (New plan other) = []
  title_of (Gone plan other) = []

  -- a stage is one of the order
  abbrev pub IsThere : Between A → Type 0
  IsThere (Stage order stage) = stage < stages_in order.now
  IsThere (Plans old new) = Unit {0}
  IsThere (New plan other) = Unit {0}
  IsThere (Gone plan other) = Unit {0}
