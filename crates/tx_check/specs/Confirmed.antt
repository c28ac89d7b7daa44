-- Certificates that the checker confirms.
use Rattle.std.specs.Prelude.{◌≡◌, ℕ}
use Rattle.tx_plan.specs.Plan.{Plan}
use Rattle.tx_plan.specs.Certified.{IsCertified}
use Rattle.tx_cert.specs.Certificate.{Certificate, IsCertificateOf, ranks_of}
use Rattle.tx_machine.specs.Sound.{IsSound, HasFewRoutes}
use Rattle.tx_check.specs.declared.verdict.Verdict.TheVariants.{Yes}
use Rattle.tx_check.specs.Checks.{check_faults, ranks_for, verdict_of}

-- the checker says Yes to the certificate, and so the plan is sound
pub record IsConfirmed (p : Plan) (cert : Certificate) (limit spare : ℕ) : Type 0 where
  pub fits : IsCertificateOf p cert
  pub certified : IsCertified p (ranks_of cert) limit spare
  pub yes : verdict_of (check_faults p (ranks_for p cert) limit spare) ≡ Yes
  pub sound : IsSound p limit spare
  pub few_routes : HasFewRoutes p limit
