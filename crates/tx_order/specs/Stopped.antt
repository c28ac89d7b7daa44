-- The plan where a stage is stopped: some of what it switches is switched already.
use Rattle.std.specs.Prelude.{◌≡◌, ℕ, ◌-◌, Bool, ◌&&◌, ◌==◌, if◌then◌else◌, List, Option, None, Some}
use Rattle.std.specs.List.{list_any}
use Rattle.tx_plan.specs.declared.ids.Pair.{Pair}
use Rattle.tx_plan.specs.Plan.{Plan}
use Rattle.tx_plan.specs.Mixtures.{IsMixture}
use Rattle.tx_plan.specs.Routes.{route_list, is_barred}
use Rattle.tx_rank.specs.Grades.{CanBeCertified}
use Rattle.tx_order.specs.Ordered.{Order, plan_before}

-- an exchange and a code are one of these pairs
abbrev pub is_done : List Pair → (x c : ℕ) → Bool
is_done pairs x c = list_any (λ p. (p.exchange == x) && (p.code == c)) pairs

-- the plan to which an order leads on or back from where one was stopped
abbrev pub target_of : (back : Bool) → (old new : Plan) → Plan
target_of back old new = if back then old else new

-- how many stages are done for an exchange and a code where stage n is stopped: of the stage what
-- these pairs say, or all of it
abbrev pub stages_done : Option (List Pair) → (n x c : ℕ) → ℕ
stages_done None n x c = n
stages_done (Some pairs) n x c = if is_done pairs x c then n else n - 1

-- Where stage n is stopped: a mixture of the plan before it and the plan after it, which can be
-- certified. It has the lists and the bars after the stage where that is done, and else those
-- before it.
pub record IsStopped (o : Order) (n : ℕ) (done : Option (List Pair)) (p : Plan) : Type 0 where
  pub mixture : IsMixture (plan_before o (n - 1)) (plan_before o n) p
  pub lists : (x c : ℕ)
      → route_list p x c ≡ route_list (plan_before o (stages_done done n x c)) x c
  pub bars : (x c : ℕ)
      → is_barred p x c ≡ is_barred (plan_before o (stages_done done n x c)) x c
  pub certified : CanBeCertified p o.transition.limit o.transition.spare
