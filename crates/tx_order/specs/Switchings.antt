-- What the search for an order answers.
use Rattle.std.specs.Prelude.{◌≡◌, ℕ, ◌+◌, ◌<◌, ◌≤◌}
use Rattle.tx_plan.specs.Plan.{Plan}
use Rattle.tx_cert.specs.Certificate.{Certificate}
use Rattle.tx_join.specs.declared.joining.Joined.{Joined}
use Rattle.tx_rank.specs.declared.ranking.Ranking.{Ranking}
use Rattle.tx_audit.specs.Audits.{IsRightRanking}
use Rattle.tx_change.specs.ChangeAnswers.{IsCleared}
use Rattle.tx_order.specs.declared.switching.Switching.{Switching}
use Rattle.tx_order.specs.declared.switching.Switching.TheVariants.{Ordered, NoOrder}
use Rattle.tx_order.specs.Levels.{levels_of}
use Rattle.tx_order.specs.Orders.{AreAlike, IsOrder, CanBothBeCertified}
use Rattle.tx_order.specs.Ordered.{Order, plan_before, stages_in, IsOrderKept}

-- a certificate to which the checker says Yes, for the plan before a stage and the plan after it,
-- clears this change
abbrev pub HasCleared : Order → ℕ → Type 0
HasCleared o s = (cert : Certificate) × IsCleared (plan_before o s) (plan_before o (s + 1))
    o.transition.limit o.transition.spare cert

-- YES: an order in at most 2 (limit + 2) stages. Each switches something, and is a change that is
-- cleared. The stages of each code are as long as they are safe.
pub record IsOrdered (old new : Plan) (limit spare : ℕ) (o : Order) : Type 0 where
  pub old_plan : o.transition.old ≡ old
  pub new_plan : o.transition.new ≡ new
  pub same_limit : o.transition.limit ≡ limit
  pub same_spare : o.transition.spare ≡ spare
  pub order : IsOrder old new (plan_before o) (stages_in o) limit spare
  pub cleared : (s : ℕ) → s < stages_in o → HasCleared o s
  pub used : (s : ℕ) → s < stages_in o → AreAlike (plan_before o s) (plan_before o (s + 1)) → ⊥
  pub few : stages_in o ≤ levels_of limit
  pub kept : IsOrderKept o

module _ {A : Type 0} where
  -- NO: what is wrong with the old plan, with the new one, or with both
  pub record HasNoOrder (old new : Plan) (limit spare : ℕ) (plans : Joined A)
      (before after : Ranking A) : Type 0 where
    pub old_plan : plans.old ≡ old
    pub new_plan : plans.new ≡ new
    pub before_right : IsRightRanking old limit spare before
    pub after_right : IsRightRanking new limit spare after
    pub none : CanBothBeCertified old new limit spare → ⊥

  -- an order was found
  abbrev pub IsOrderFound : Switching A → Type 0
  IsOrderFound (Ordered o) = Unit {0}
  IsOrderFound (NoOrder plans before after) = ⊥

  -- YES with an order, or NO with what is wrong with both plans
  abbrev pub IsRightSwitching : (old new : Plan) → (limit spare : ℕ) → Switching A → Type 0
  IsRightSwitching old new limit spare (Ordered o) = IsOrdered old new limit spare o
  IsRightSwitching old new limit spare (NoOrder plans before after) =
      HasNoOrder old new limit spare plans before after

  -- both plans, whether there is an order or not
  abbrev pub plans_of : Switching A → Joined A
  plans_of (Ordered o) = record { old = o.transition.old; new = o.transition.new }
  plans_of (NoOrder plans before after) = plans
