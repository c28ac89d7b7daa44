-- What the checker is asked about a stage.
use Rattle.std.specs.Prelude.{◌≡◌, ℕ, ◌+◌, List, Option}
use Rattle.tx_plan.specs.declared.ids.Pair.{Pair}
use Rattle.tx_plan.specs.Plan.{Plan}
use Rattle.tx_plan.specs.Mixtures.{AreCommon}
use Rattle.tx_cert.specs.Certificate.{ranks_of, IsCertificateOf}
use Rattle.tx_order.specs.declared.switching.Asked.{Asked}
use Rattle.tx_change.specs.declared.mixing.Lists.{Lists}
use Rattle.tx_order.specs.Ordered.{Order, fronts_before, plan_before}
use Rattle.tx_order.specs.Stages.{switched}
use Rattle.tx_order.specs.Stopped.{stages_done}
use Rattle.tx_order.specs.Transitions.{has_list, has_bar}

-- the plan where stage n is stopped, of which these pairs are done, or all of it
abbrev pub plan_stopped : Order → (n : ℕ) → Option (List Pair) → Plan
plan_stopped o n done = switched o.transition.old o.transition.new
    (λ x c. has_list o.transition (fronts_before o (stages_done done n x c) c) x c)
    (λ x c. has_bar o.transition (fronts_before o (stages_done done n x c) c) x c)

-- the lists are those of the plan
pub record AreListsOf {A : Type 0} (p : Plan) (l : Lists A) : Type 0 where
  pub routes : l.routes ≡ p.routes
  pub bars : l.bars ≡ p.bars

-- the certificate is one of the plans before and after the stage, and the lists are those of these
-- plans and of the old one
pub record IsAsked {A : Type 0} (o : Order) (stage : ℕ) (asked : Asked A) : Type 0 where
  pub common : AreCommon (plan_before o stage) (plan_before o (stage + 1)) (ranks_of asked.cert)
      o.transition.limit o.transition.spare
  pub fits : IsCertificateOf o.transition.old asked.cert
  pub before : AreListsOf (plan_before o stage) asked.before
  pub after : AreListsOf (plan_before o (stage + 1)) asked.after
  pub old : AreListsOf o.transition.old asked.old
