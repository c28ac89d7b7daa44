-- What is left to say once the report of an audit is out, and an audit while groups are down.
use Rattle.std.specs.Prelude.{◌≡◌, ℕ, Bool, true, false, List, [], ◌∷◌, Option, None, Some, is_some, if◌then◌else◌, Result, Ok, Err}
use Rattle.std.specs.List.{list_any}
use Rattle.std.specs.Option.{IfSome}
use Rattle.tx_plan.specs.Plan.{Plan}
use Rattle.tx_cert.specs.CertText.{cert_written}
use Rattle.tx_rank.specs.declared.finding.Finding.{Finding}
use Rattle.tx_rank.specs.declared.ranking.Ranking.{Ranking}
use Rattle.tx_rank.specs.Report.{findings_of}
use Rattle.tx_page.specs.Page.{is_safe}
use Rattle.tx_audit.specs.Counter.{has_counter, first_counter_of}
use Rattle.tx_audit.specs.Audits.{IsRightRanking, audit_report}
use Rattle.tx_audit.specs.Breaks.{ShowsOne}
use Rattle.tx_audit.specs.declared.audited.Audited.{Audited}
use Rattle.tx_audit.specs.declared.audited.Audited.TheVariants.{Sound, Unsound}
use Rattle.tx_commands.specs.declared.audit.AuditRequest.{AuditRequest}
use Rattle.tx_commands.specs.declared.down.Down.{Down}
use Rattle.tx_files.specs.declared.ending.Ending.{Ending}
use Rattle.tx_files.specs.declared.fault.CommandFault.{CommandFault}
use Rattle.tx_files.specs.declared.made.Made.{Made}
use Rattle.tx_files.specs.Ending.{EndsWith, EndsWithTexts}
use Rattle.tx_files.specs.Faults.{memory_stop}
use Rattle.tx_files.specs.Made.{shown_plan, shown_events}
use Rattle.tx_files.specs.Left.{ReadsLeft, one_plan, IsPlanLeft}
use Rattle.tx_files.specs.Reading.{ReadsPlan}
use Rattle.tx_jobs.specs.AuditJobs.{AuditJobAnswers}
use Rattle.tx_requests.specs.Carried.{IsCarriedOut}
use Rattle.tx_requests.specs.Jobs.{IsJobDone}
use Rattle.tx_requests.specs.Printing.{Printing, Writes}
use Rattle.tx_text.specs.Ends.{Input, output}

module _ {A : Type 0} where
  -- The script has the plan and the events of the first finding that has some, and these show one
  -- of the findings, so the plan is not sound. There is none exactly where no finding has events.
  abbrev pub ShowsCounter : Plan → (limit spare : ℕ) → List (Finding A) → Option (Made A) → Type 0
  ShowsCounter p limit spare findings None =
      (first_counter_of p findings ≡ None) × (list_any (has_counter p) findings ≡ false)
  ShowsCounter p limit spare findings (Some m) = (shown_plan m.shown ≡ p)
      × (shown_events m.shown ≡ first_counter_of p findings)
      × (is_some (shown_events m.shown) ≡ list_any (has_counter p) findings)
      × IfSome (shown_events m.shown) (ShowsOne p limit spare findings)
      × (m.text ≡ None) × (m.cert ≡ None)

  -- status 1 after a No, and the script goes into a file, if it is asked for
  abbrev pub EndsAfterNo : (asked : Bool) → Plan → (limit spare : ℕ) → List (Finding A)
      → Result (Ending A) CommandFault → Type 0
  EndsAfterNo true p limit spare findings (Ok e) =
      (e.status ≡ 1) × ShowsCounter p limit spare findings e.made
  EndsAfterNo true p limit spare findings (Err fault) = fault ≡ memory_stop
  EndsAfterNo false p limit spare findings result = EndsWith 1 result

  -- the plan, and its ranking
  abbrev pub LeftAnswers : AuditRequest → Plan → Result (Plan × Ranking A) CommandFault → Type 0
  LeftAnswers r p (Ok a) = (a.0 ≡ p) × IsRightRanking p r.limits.limit r.limits.spare a.1
  LeftAnswers r p (Err fault) = fault ≡ memory_stop

  -- the report of an audit
  abbrev pub left_prints : AuditRequest → Plan × Ranking A → Printing
  left_prints r a = Writes (audit_report a.0 r.limits.limit r.limits.spare (findings_of a.1))

  -- status 0 after a Yes
  abbrev pub LeftEnds : Plan × Ranking A → Result (Ending A) CommandFault → Type 0
  LeftEnds a = EndsWith (if is_safe a.1 then 0 else 1)

  -- status 0 after a Yes, and the certificate goes into a file
  abbrev pub AuditEnds : AuditRequest → Audited A → Result (Ending A) CommandFault → Type 0
  AuditEnds r (Sound p cert) = EndsWithTexts 0 (None ∷ Some (cert_written p cert) ∷ None ∷ [])
  AuditEnds r (Unsound p findings) = EndsAfterNo (is_some r.counter) p r.limits.limit
      r.limits.spare findings.items

module _ {A W : Type 0} (taken : W → Option (List ℕ)) (marked : W → Bool) (before after : W)
    (plan : Input) where
  -- by the job; or while something is down of the plan that is left
  abbrev pub IsAudited : AuditRequest → Option Down → Result (Ending A) CommandFault → Type 0
  IsAudited r None result =
      IsJobDone (AuditJobAnswers r.limits.limit r.limits.spare plan (output taken before after))
      (AuditEnds r) (marked before) (marked after) result
  IsAudited r (Some d) result = (texts : Result Plan CommandFault)
      × ReadsLeft one_plan IsPlanLeft (Some d) (ReadsPlan plan) texts
      × IsCarriedOut LeftAnswers left_prints (λ r. LeftEnds) r taken marked before after texts result
