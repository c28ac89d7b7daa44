-- What the judgement on a change answers.
use Rattle.std.specs.Prelude.{◌≡◌, ◌≢◌, ℕ, List, []}
use Rattle.std.specs.List.{AllByRecursion}
use Rattle.tx_plan.specs.Plan.{Plan}
use Rattle.tx_cert.specs.Certificate.{Certificate, IsCertificateOf, ranks_of}
use Rattle.tx_machine.specs.Sound.{IsSound}
use Rattle.tx_check.specs.declared.verdict.Verdict.TheVariants.{Yes}
use Rattle.tx_check.specs.Checks.{check_faults, ranks_for, verdict_of}
use Rattle.tx_rank.specs.declared.finding.Finding.{Finding}
use Rattle.tx_rank.specs.declared.ranking.Ranking.TheVariants.{Fails}
use Rattle.tx_rank.specs.Grades.{CanBeCertified}
use Rattle.tx_plan.specs.Mixtures.{EachMixture, AreCommon}
use Rattle.tx_machine.specs.ChangingRuns.{IsSoundChange, HasFewRoutesMeanwhile, SufficesMeanwhile}
use Rattle.tx_audit.specs.Audits.{IsRightRanking, IsCleared as PlanIsCleared}
use Rattle.tx_change.specs.declared.judging.ChangeVerdict.{ChangeVerdict}
use Rattle.tx_change.specs.declared.judging.ChangeVerdict.TheVariants.{Sound, Unsound, NewUnsound}
use Rattle.tx_change.specs.ChangeFindings.{AreChangeFindings}
use Rattle.tx_change.specs.Shown.{IsShown}

-- YES: the checker says Yes to the certificate for both plans, its ranks certify both, and so each
-- mixture is sound, and the change is with calls up: calls are routed a few times only, and spare
-- groups suffice.
pub record IsCleared (old new : Plan) (limit spare : ℕ) (cert : Certificate) : Type 0 where
  pub fits : IsCertificateOf old cert
  pub before : verdict_of (check_faults old (ranks_for old cert) limit spare) ≡ Yes
  pub after : verdict_of (check_faults new (ranks_for new cert) limit spare) ≡ Yes
  pub common : AreCommon old new (ranks_of cert) limit spare
  pub mixtures : EachMixture old new (λ m. IsSound m limit spare)
  pub live : IsSoundChange old new limit spare
  pub few_routes : HasFewRoutesMeanwhile old new limit
  pub suffice : SufficesMeanwhile old new spare

-- NO: there are findings, each is true of the mixture that it shows, and so not every mixture can
-- be certified.
pub record IsDenied {A : Type 0} (old new : Plan) (limit spare : ℕ)
    (findings : List (Finding A)) : Type 0 where
  pub some : findings ≢ []
  pub listed : AreChangeFindings old new limit spare findings
  pub shown : AllByRecursion (IsShown old new limit spare) findings
  pub uncertified : EachMixture old new (λ m. CanBeCertified m limit spare) → ⊥

-- some certificate clears the change
abbrev pub IsClearedChange : (old new : Plan) → (limit spare : ℕ) → Type 0
IsClearedChange old new limit spare = (cert : Certificate) × IsCleared old new limit spare cert

-- some certificate clears the plan as it is
abbrev pub IsClearedPlan : Plan → (limit spare : ℕ) → Type 0
IsClearedPlan p limit spare = (cert : Certificate) × PlanIsCleared p cert limit spare

module _ {A : Type 0} where
  -- Over the joined network and of the new plan as it is: YES with a certificate that clears the
  -- change, where one clears the new plan too. NO with findings that deny the change, or where it
  -- is cleared with findings of the new plan.
  abbrev pub IsRightVerdict : (before after new : Plan) → (limit spare : ℕ) → ChangeVerdict A
      → Type 0
  IsRightVerdict before after new limit spare (Sound cert) =
      IsCleared before after limit spare cert × IsClearedPlan new limit spare
  IsRightVerdict before after new limit spare (Unsound findings) =
      IsDenied before after limit spare findings.items
  IsRightVerdict before after new limit spare (NewUnsound findings) =
      IsClearedChange before after limit spare
      × IsRightRanking new limit spare (Fails findings)
