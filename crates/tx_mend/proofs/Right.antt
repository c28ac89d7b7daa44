-- What a mending came to is right.
use Rattle.tx_mend.proofs.Common.{◌≡◌, ℕ, Plan, ambiguous_of, IsRouting, CanBeMended, mended}
use Rattle.std.specs.Prelude.{◌↔◌}
use Rattle.tx_mend.specs.declared.mending.Mending.{Mending}
use Rattle.tx_mend.specs.declared.mending.Mending.TheVariants.{Mended, NoRouting}
use Rattle.tx_mend.specs.Unserved.{unserved, missing}
use Rattle.tx_mend.specs.Laws.{KeepsSafeLists, ChangesLeast}
use Rattle.tx_check.specs.Confirmed.{IsConfirmed}
use Rattle.tx_mend.specs.Mendings.{IsMended, OnMended, OnNoRouting, IsRightMending}

module _ (A : Type 0) (p : Plan) (limit spare : ℕ) where
  pub is_right : (m : Mending A) → (IsMended m ↔ CanBeMended p limit spare) → OnMended (λ q before cert. IsRouting p q) m → OnMended (λ q before cert. q ≡ mended p limit spare) m
      → OnMended (λ q before cert. before ≡ p.routes) m → OnMended (λ q before cert. KeepsSafeLists p q limit spare) m
      → OnMended (λ q before cert. ChangesLeast p q limit spare) m → OnMended (λ q before cert. IsConfirmed q cert limit spare) m
      → OnNoRouting (λ q told gaps pair. q ≡ p) m → OnNoRouting (λ q told gaps pair. told ≡ unserved p limit spare) m → OnNoRouting (λ q told gaps pair. gaps ≡ missing p limit spare) m
      → OnNoRouting (λ q told gaps pair. pair ≡ ambiguous_of p.codes) m → IsRightMending p limit spare m
  is_right (Mended q before cert) wherever routing is had kept least confirmed same told gaps pair =
      record { routing = routing; mended = is; before = had; kept = kept; least = least; confirmed = confirmed }
  is_right (NoRouting q origins lacking both) wherever routing is had kept least confirmed same told gaps pair =
      record { same = same; told = told; missing = gaps; pair = pair; none = λ can. wherever.1 can }
