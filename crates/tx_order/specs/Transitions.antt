-- A transition from one plan to another of the same network.
use Rattle.std.specs.Prelude.{ℕ, Bool}
use Rattle.tx_plan.specs.Plan.{Plan}
use Rattle.tx_cert.specs.Certificate.{Certificate, ranks_of}
use Rattle.tx_order.specs.Levels.{is_switched, is_bar_switched}
use Rattle.tx_order.specs.Stages.{AreBothCertified, plan_of}

-- Two plans, the certificate of each, and the limits for which they certify them.
pub record Transition : Type 0 where
  pub old : Plan
  pub new : Plan
  pub before : Certificate
  pub after : Certificate
  pub limit : ℕ
  pub spare : ℕ

-- both plans obey the rules, are of one network, and are certified by their certificates
abbrev pub IsTransition : Transition → Type 0
IsTransition w =
    AreBothCertified w.old w.new (ranks_of w.before) (ranks_of w.after) w.limit w.spare

-- the plan at fronts of the codes
abbrev pub plan_with : Transition → (ℕ → ℕ) → Plan
plan_with w fronts =
    plan_of w.old w.new (ranks_of w.before) (ranks_of w.after) w.limit fronts

-- the plan where the front of all codes is the same
abbrev pub plan_front : Transition → ℕ → Plan
plan_front w front = plan_with w (λ c. front)

-- the list of an exchange for a code is the new one at a front
abbrev pub has_list : Transition → (front x c : ℕ) → Bool
has_list w front x c = is_switched (ranks_of w.before) (ranks_of w.after) w.limit front x c

-- and so is its bar, or that it has none
abbrev pub has_bar : Transition → (front x c : ℕ) → Bool
has_bar w front x c = is_bar_switched w.new w.limit front x c
