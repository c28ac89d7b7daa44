-- The command `change`.
use Rattle.std.specs.Prelude.{◌≡◌, Bool, true, false, ◌||◌, List, ◌∷◌, [], Option, Some, None, is_some, Result, Ok, Err}
use Rattle.tx_plan.specs.Plan.{Plan}
use Rattle.tx_machine.specs.declared.event.Event.{Event}
use Rattle.tx_cert.specs.CertText.{cert_written}
use Rattle.tx_rank.specs.declared.finding.Finding.{Finding}
use Rattle.tx_change.specs.declared.judging.ChangeVerdict.{ChangeVerdict}
use Rattle.tx_change.specs.declared.judging.ChangeVerdict.TheVariants.{Sound, Unsound, NewUnsound}
use Rattle.tx_change.specs.ChangeAnswers.{IsRightVerdict}
use Rattle.tx_change.specs.ChangeReport.{change_report}
use Rattle.tx_change.specs.MixtureShown.{first_walked, ShowsFirstWalk, ShowsNewPlan}
use Rattle.tx_commands.specs.declared.change.ChangeRequest.{ChangeRequest}
use Rattle.tx_files.specs.declared.ending.Ending.{Ending}
use Rattle.tx_files.specs.declared.fault.CommandFault.{CommandFault}
use Rattle.tx_files.specs.declared.made.Made.{Made}
use Rattle.tx_files.specs.declared.two_plans.PlanText.{PlanText}
use Rattle.tx_files.specs.declared.two_plans.TwoPlans.{TwoPlans}
use Rattle.tx_files.specs.Ending.{EndsWith, EndsWithTexts}
use Rattle.tx_files.specs.Faults.{memory_stop}
use Rattle.tx_files.specs.Made.{shown_plan, shown_events, plan_file, HasTextIf}
use Rattle.tx_requests.specs.Printing.{Printing, Writes}

-- what shows a No goes into a file
abbrev pub is_shown : ChangeRequest → Bool
is_shown r = is_some r.mixture || is_some r.counter

module _ {A : Type 0} where
  -- the plans, and the verdict on the change of the one into the other over their joined network
  abbrev pub ChangeAnswers : ChangeRequest → TwoPlans A
      → Result (TwoPlans A × ChangeVerdict A) CommandFault → Type 0
  ChangeAnswers r t (Ok a) = (a.0 ≡ t)
      × IsRightVerdict t.joined.old t.joined.new t.new.plan r.limits.limit r.limits.spare a.1
  ChangeAnswers r t (Err fault) = fault ≡ memory_stop

  -- with the lists that are switched, and those that they replace
  abbrev pub change_prints : ChangeRequest → TwoPlans A × ChangeVerdict A → Printing
  change_prints r a = Writes (change_report a.0.old.plan a.0.new.plan a.0.joined.old
      a.0.joined.new r.limits.limit r.limits.spare a.1)

  -- what goes into files: nothing where no finding has a walk; else a plan that shows the first
  -- one, if its text is asked for, and its script, if it has one
  abbrev pub ShowsFirst : (asked : Bool) → PlanText A → List (Finding A)
      → (Shows : Plan → Option (List Event) → Type 0) → Option (Made A) → Type 0
  ShowsFirst asked old findings Shows None = first_walked findings ≡ None
  ShowsFirst asked old findings Shows (Some m) = Shows (shown_plan m.shown) (shown_events m.shown)
      × (m.cert ≡ None) × HasTextIf asked old.text.items (shown_plan m.shown)
      (plan_file (shown_plan m.shown) m.text)

  -- after a No status 1, and that goes into files, if it is asked for
  abbrev pub EndsShown : (shown asked : Bool) → PlanText A → List (Finding A)
      → (Shows : Plan → Option (List Event) → Type 0) → Result (Ending A) CommandFault → Type 0
  EndsShown true asked old findings Shows (Ok e) =
      (e.status ≡ 1) × ShowsFirst asked old findings Shows e.made
  EndsShown true asked old findings Shows (Err fault) = fault ≡ memory_stop
  EndsShown false asked old findings Shows result = EndsWith 1 result

  -- of a mixture: that of the first finding that has a walk
  abbrev pub EndsWithMixture : ChangeRequest → TwoPlans A → List (Finding A)
      → Result (Ending A) CommandFault → Type 0
  EndsWithMixture r t findings = EndsShown (is_shown r) (is_some r.mixture) t.old findings
      (ShowsFirstWalk t.joined.old t.joined.new r.limits.limit r.limits.spare findings)

  -- of the new plan as it is: this plan, by its first finding that has a walk
  abbrev pub EndsWithNewPlan : ChangeRequest → TwoPlans A → List (Finding A)
      → Result (Ending A) CommandFault → Type 0
  EndsWithNewPlan r t findings = EndsShown (is_shown r) (is_some r.mixture) t.old findings
      (ShowsNewPlan t.new.plan r.limits.limit r.limits.spare findings)

  -- after a Yes the certificate goes into a file, which is one of both plans over their joined
  -- network
  abbrev pub EndsByVerdict : ChangeRequest → TwoPlans A → ChangeVerdict A
      → Result (Ending A) CommandFault → Type 0
  EndsByVerdict r t (Sound cert) =
      EndsWithTexts 0 (None ∷ Some (cert_written t.joined.old cert) ∷ None ∷ [])
  EndsByVerdict r t (Unsound findings) = EndsWithMixture r t findings.items
  EndsByVerdict r t (NewUnsound findings) = EndsWithNewPlan r t findings.items

  abbrev pub ChangeEnds : ChangeRequest → TwoPlans A × ChangeVerdict A
      → Result (Ending A) CommandFault → Type 0
  ChangeEnds r a = EndsByVerdict r a.0 a.1
