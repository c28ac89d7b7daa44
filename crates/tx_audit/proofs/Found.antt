-- From what a ranking came to, what an audit answers.
use Rattle.tx_audit.proofs.Common.{◌≡◌, ◌≢◌, ℕ, List, [], ◌∷◌, Ok, refl, AllByRecursion, Plan, IsPlan, Finding}
use Rattle.std.specs.Prelude.{Vec}
use Rattle.std.specs.Io.KnownBytes.{append_known}
use Rattle.tx_text.specs.Ends.{StopsIn, Input, Output}
use Rattle.tx_plan.specs.Certified.{Ranks, IsCertified}
use Rattle.tx_plantext.specs.PlanText.{SaysPlan}
use Rattle.tx_cert.specs.Certificate.{Certificate, ranks_of}
use Rattle.tx_check.specs.Confirmed.{IsConfirmed}
use Rattle.tx_rank.specs.declared.ranking.Ranking.{Ranking}
use Rattle.tx_rank.specs.declared.ranking.Ranking.TheVariants.{Found, Fails}
use Rattle.tx_rank.specs.Findings.{IsTrueOf, AreFindings}
use Rattle.tx_rank.specs.Heights.{AreHeights}
use Rattle.tx_rank.specs.Report.{findings_of}
use Rattle.tx_audit.specs.Audits.{IsAllFound, IsCleared, IsRightRanking, audit_report, OnUnsound, AuditAnswers, ReportedInPart}
use Rattle.tx_audit.specs.inner.Ranked.{audited_of}

module _ (A : Type 0) (p : Plan) (limit spare : ℕ) where
  all_found : (findings : List (Finding A)) → findings ≢ [] → AllByRecursion (IsTrueOf p limit spare) findings → AreFindings p limit spare findings → IsAllFound p limit spare findings
  all_found [] some each listed = absurd (some refl)
  all_found (f ∷ findings) some each listed = (each, listed)

  -- a certificate that the checker confirmed is right
  pub found_right : (cert : Certificate) → ((f : Finding A) → IsTrueOf p limit spare f → ⊥) → AreHeights p (ranks_of cert) → IsConfirmed p cert limit spare → IsRightRanking {A = A} p limit spare (Found cert)
  found_right cert clear heights h = (
    clear,
    record { fits = h.fits; heights = heights; certified = h.certified; yes = h.yes; sound = h.sound; few_routes = h.few_routes },
  )

  pub fails_right : (findings : Vec (Finding A) A) → findings.items ≢ [] → AllByRecursion (IsTrueOf p limit spare) findings.items → AreFindings p limit spare findings.items → ((ranks : Ranks) → IsCertified p ranks limit spare → ⊥)
      → IsRightRanking p limit spare (Fails findings)
  fails_right findings some each listed none = (all_found findings.items some each listed, some, λ k. none k.0 k.1)

  all_of : (r : Ranking A) → IsRightRanking p limit spare r → IsAllFound p limit spare (findings_of r)
  all_of (Found cert) right = right.0
  all_of (Fails findings) right = right.0

  each_of : (findings : List (Finding A)) → IsAllFound p limit spare findings → AllByRecursion (IsTrueOf p limit spare) findings
  each_of [] all = tt
  each_of (f ∷ findings) all = all.0

  -- what is reported is true
  pub each_true : (r : Ranking A) → IsRightRanking p limit spare r → OnUnsound (λ q findings. AllByRecursion (IsTrueOf q limit spare) findings) (audited_of p r)
  each_true (Found cert) right = tt
  each_true (Fails findings) right = each_of findings.items right.0

  cleared : (r : Ranking A) → IsRightRanking p limit spare r → findings_of r ≡ [] → (cert : Certificate) × IsCleared p cert limit spare
  cleared (Found cert) right none = (cert, right.1)
  cleared (Fails findings) right none = absurd (right.1 none)

  module _ (text : Input) (out : Output) (rules : IsPlan p) (read : SaysPlan text p) where
    pub audited : (r : Ranking A) → IsRightRanking p limit spare r → out.new ≡ append_known out.old (audit_report p limit spare (findings_of r)) → AuditAnswers limit spare text out (Ok (audited_of p r))
    audited (Found cert) right wrote = (record { rules = rules; read = read; found = right.0; wrote = wrote }, right.1)
    audited (Fails findings) right wrote = (record { rules = rules; read = read; found = right.0; wrote = wrote }, right.1, right.2)

    pub stopped : (r : Ranking A) → IsRightRanking p limit spare r → StopsIn out.old out.new (audit_report p limit spare (findings_of r)) → ReportedInPart A limit spare text out
    stopped r right wrote = record { plan = p; rules = rules; read = read; findings = findings_of r; found = all_of r right; cleared = cleared r right; wrote = wrote }
