-- What the certificate of a stage keeps from code to code.
use Rattle.std.specs.Prelude.{◌≡◌, ℕ, ◌<◌, ◌≤◌, length, None}
use Rattle.tx_cert.specs.Certificate.{Certificate, rank_at}
use Rattle.tx_rank.specs.Nets.{Certifies}
use Rattle.tx_change.specs.ChangeNets.{change_net}
use Rattle.tx_order.specs.Transitions.{Transition, plan_front}

-- the codes before c are certified between two fronts of each, and no others are ranked
pub record IsCertifiedBelow (w : Transition) (from to : ℕ → ℕ) (c : ℕ) (cert : Certificate)
    : Type 0 where
  pub certified : (d : ℕ) → d < c
      → Certifies (change_net (plan_front w (from d)) (plan_front w (to d)) d) (rank_at cert d)
      w.limit w.spare
  pub blank : (d x : ℕ) → c ≤ d → rank_at cert d x ≡ None
  pub codes : cert.codes ≡ length w.old.codes
  pub exchanges : cert.exchanges ≡ length w.old.exchanges
