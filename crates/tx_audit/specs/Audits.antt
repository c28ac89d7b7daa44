-- What an audit answers.
use Rattle.std.specs.Prelude.{◌≡◌, ◌≢◌, ℕ, Bool, true, List, [], ◌∷◌, codes, Result, Ok, Err}
use Rattle.std.specs.List.{AllByRecursion}
use Rattle.std.specs.Io.KnownBytes.{append_known}
use Rattle.tx_text.specs.Ends.{StopsIn, Input, Output}
use Rattle.tx_plan.specs.Plan.{Plan}
use Rattle.tx_plan.specs.Rules.{IsPlan}
use Rattle.tx_plan.specs.Certified.{IsCertified}
use Rattle.tx_plantext.specs.PlanText.{SaysPlan, ReadsPlan}
use Rattle.tx_cert.specs.Certificate.{Certificate, IsCertificateOf, ranks_of}
use Rattle.tx_machine.specs.Sound.{IsSound, HasFewRoutes}
use Rattle.tx_check.specs.declared.verdict.Verdict.TheVariants.{Yes}
use Rattle.tx_check.specs.Checks.{check_faults, ranks_for, verdict_of}
use Rattle.tx_rank.specs.declared.finding.Finding.{Finding}
use Rattle.tx_rank.specs.declared.ranking.Ranking.{Ranking}
use Rattle.tx_rank.specs.declared.ranking.Ranking.TheVariants.{Found, Fails}
use Rattle.tx_rank.specs.Findings.{IsTrueOf, AreFindings}
use Rattle.tx_rank.specs.Grades.{CanBeCertified}
use Rattle.tx_rank.specs.Heights.{AreHeights}
use Rattle.tx_rank.specs.Report.{report}
use Rattle.tx_audit.specs.declared.audited.Audited.{Audited}
use Rattle.tx_audit.specs.declared.audited.Audited.TheVariants.{Sound, Unsound}
use Rattle.tx_audit.specs.declared.audited.AuditFault.{AuditFault}
use Rattle.tx_audit.specs.declared.audited.AuditFault.TheVariants.{Plan as PlanRefused, Write, NoMemory}

-- The certificate ranks by heights and certifies the plan, the checker says Yes to it, and so the
-- plan is sound and calls are routed a few times only.
pub record IsCleared (p : Plan) (cert : Certificate) (limit spare : ℕ) : Type 0 where
  pub fits : IsCertificateOf p cert
  pub heights : AreHeights p (ranks_of cert)
  pub certified : IsCertified p (ranks_of cert) limit spare
  pub yes : verdict_of (check_faults p (ranks_for p cert) limit spare) ≡ Yes
  pub sound : IsSound p limit spare
  pub few_routes : HasFewRoutes p limit

module _ {A : Type 0} where
  -- the findings that the rules list, in order, each true; none where no finding is true
  abbrev pub IsAllFound : Plan → (limit spare : ℕ) → List (Finding A) → Type 0
  IsAllFound p limit spare [] = (f : Finding A) → IsTrueOf p limit spare f → ⊥
  IsAllFound p limit spare (f ∷ findings) = AllByRecursion (IsTrueOf p limit spare) (f ∷ findings)
      × AreFindings p limit spare (f ∷ findings)

  -- a certificate that clears a plan without findings, or the findings of one that no ranks certify
  abbrev pub IsRightRanking : Plan → (limit spare : ℕ) → Ranking A → Type 0
  IsRightRanking p limit spare (Found cert) = IsAllFound p limit spare []
      × IsCleared p cert limit spare
  IsRightRanking p limit spare (Fails findings) = IsAllFound p limit spare findings.items
      × (findings.items ≢ []) × (CanBeCertified p limit spare → ⊥)

  -- the report of an audit
  abbrev pub audit_report : Plan → (limit spare : ℕ) → List (Finding A) → List ℕ
  audit_report = report (codes "AUDIT")

  -- the plan of the whole text was audited, and the report was written
  pub record Reported (p : Plan) (limit spare : ℕ) (text : Input) (out : Output)
      (findings : List (Finding A)) : Type 0 where
    pub rules : IsPlan p
    pub read : SaysPlan text p
    pub found : IsAllFound p limit spare findings
    pub wrote : out.new ≡ append_known out.old (audit_report p limit spare findings)

-- it holds of a plan and its findings, if something was wrong
abbrev pub OnUnsound : {A : Type 0} → (Plan → List (Finding A) → Type 0) → Audited A → Type 0
OnUnsound Holds (Sound p cert) = Unit {0}
OnUnsound Holds (Unsound p findings) = Holds p findings.items

-- the plan was audited, but a write failed within the report
pub record ReportedInPart (A : Type 0) (limit spare : ℕ) (text : Input) (out : Output)
    : Type 0 where
  pub plan : Plan
  pub rules : IsPlan plan
  pub read : SaysPlan text plan
  pub findings : List (Finding A)
  pub found : IsAllFound plan limit spare findings
  pub cleared : findings ≡ [] → (cert : Certificate) × IsCleared plan cert limit spare
  pub wrote : StopsIn out.old out.new (audit_report plan limit spare findings)

-- the plan was read, and there was no memory to rank it
pub record ReadAlone (text : Input) : Type 0 where
  pub plan : Plan
  pub rules : IsPlan plan
  pub read : SaysPlan text plan

-- What an audit answers
abbrev pub AuditAnswers : {A : Type 0} → (limit spare : ℕ) → (text : Input) → (out : Output)
    → Result (Audited A) AuditFault → Type 0
AuditAnswers {A} limit spare text out (Ok (Sound p cert)) =
    Reported {A = A} p limit spare text out [] × IsCleared p cert limit spare
AuditAnswers limit spare text out (Ok (Unsound p findings)) =
    Reported p limit spare text out findings.items
    × (findings.items ≢ []) × (CanBeCertified p limit spare → ⊥)
AuditAnswers limit spare text out (Err (PlanRefused f)) =
    ReadsPlan text (Err (f.line, f.kind)) × out.silent
AuditAnswers {A} limit spare text out (Err Write) = ReportedInPart A limit spare text out
AuditAnswers limit spare text out (Err NoMemory) = ReadAlone text × out.silent

-- the mark of the sink after such a fault: set by a write that failed, and otherwise as before
abbrev pub mark_by : Bool → AuditFault → Bool
mark_by old (PlanRefused f) = old
mark_by old Write = true
mark_by old NoMemory = old

-- the mark after a call: as before where it answers Ok
abbrev pub mark_after : {X : Type 0} → Bool → Result X AuditFault → Bool
mark_after old (Ok x) = old
mark_after old (Err f) = mark_by old f
