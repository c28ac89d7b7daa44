-- The plans on the way from an old plan to a new one, and their ranks.
use Rattle.std.specs.Prelude.{ℕ, Bool, if◌then◌else◌}
use Rattle.tx_plan.specs.Plan.{Plan}
use Rattle.tx_plan.specs.Rules.{IsPlan}
use Rattle.tx_plan.specs.Certified.{Ranks, IsCertified}
use Rattle.tx_plan.specs.Mixed.{rerouted, replaced}
use Rattle.tx_plan.specs.Mixtures.{SameNetwork}
use Rattle.tx_order.specs.Levels.{is_switched, is_bar_switched}

-- two plans of one network, each certified by ranks of its own
pub record AreBothCertified (old new : Plan) (before after : Ranks) (limit spare : ℕ) : Type 0 where
  pub network : SameNetwork old new
  pub old_rules : IsPlan old
  pub new_rules : IsPlan new
  pub old_certified : IsCertified old before limit spare
  pub new_certified : IsCertified new after limit spare

-- the new lists and the new bars at some exchanges for some codes, and all else from the old plan
abbrev pub switched : (old new : Plan) → (listed barred : ℕ → ℕ → Bool) → Plan
switched old new listed barred =
    rerouted old (replaced (λ r. listed r.exchange r.code) old.routes new.routes)
    (replaced (λ b. barred b.exchange b.code) old.bars new.bars)

-- the plan in which all is switched that has a level below the front of its code
abbrev pub plan_of : (old new : Plan) → (before after : Ranks) → ℕ → (ℕ → ℕ) → Plan
plan_of old new before after limit fronts = switched old new
    (λ x c. is_switched before after limit (fronts c) x c)
    (λ x c. is_bar_switched new limit (fronts c) x c)

-- its ranks: the new one where the list is switched, and else the old one
abbrev pub ranks_by : (before after : Ranks) → ℕ → (ℕ → ℕ) → Ranks
ranks_by before after limit fronts = λ c x.
    if is_switched before after limit (fronts c) x c then after c x else before c x

-- the plan where the front of all codes is the same
abbrev pub plan_at : (old new : Plan) → (before after : Ranks) → (limit front : ℕ) → Plan
plan_at old new before after limit front = plan_of old new before after limit (λ c. front)

-- and its ranks
abbrev pub ranks_at : (before after : Ranks) → (limit front : ℕ) → Ranks
ranks_at before after limit front = ranks_by before after limit (λ c. front)
