-- What a command comes to over its texts.
use Rattle.std.specs.Prelude.{◌≡◌, ℕ, Bool, true, List, Option, None, is_some, Result, Err}
use Rattle.tx_text.specs.declared.source.ReadFault.{ReadFault}
use Rattle.tx_text.specs.Ends.{Input, Output, input, output}
use Rattle.tx_commands.specs.declared.command.Command.{Command}
use Rattle.tx_commands.specs.declared.down.Down.{Down}
use Rattle.tx_commands.specs.declared.command.Command.TheVariants.{Pipe, Run, RunTelling, Check, Lint, Codes, Audit, Change, Order, Mend, Survive, Compare, Page, Grade, Trace, TraceThrough, TraceChanges, Fill, Explain}
use Rattle.tx_jobs.specs.CheckJobs.{CheckJobAnswers}
use Rattle.tx_jobs.specs.declared.job_fault.JobFault.{JobFault}
use Rattle.tx_jobs.specs.Jobs.{CodesJobAnswers}
use Rattle.tx_jobs.specs.PipeJobs.{PipeJobAnswers}
use Rattle.tx_files.specs.declared.ending.Ending.{Ending}
use Rattle.tx_files.specs.declared.fault.CommandFault.{CommandFault}
use Rattle.tx_files.specs.declared.two_plans.Which.TheVariants.{This}
use Rattle.tx_files.specs.Ending.{EndsWith, EndsWell}
use Rattle.tx_files.specs.Left.{ReadsLeft, one_plan, IsPlanLeft, plan_said, IsTextLeft, plan_at_risk, IsLeftAtRisk, two_plans, AreLeft, plans_at_risk, AreLeftAtRisk, page_plans, IsLeftForPage}
use Rattle.tx_files.specs.PageReading.{ReadsForPage}
use Rattle.tx_files.specs.Reading.{ReadsPlan, ReadsWithRisks}
use Rattle.tx_files.specs.Stopped.{ReadsStopped}
use Rattle.tx_files.specs.TwoPlans.{ReadsWhole, ReadsPlans, ReadsPlansWithRisks, ReadsWithOld}
use Rattle.tx_requests.specs.Audit.{IsAudited}
use Rattle.tx_requests.specs.Carried.{IsCarriedOut}
use Rattle.tx_requests.specs.Change.{ChangeAnswers, change_prints, ChangeEnds}
use Rattle.tx_requests.specs.Compare.{CompareAnswers, ComparePrints, CompareEnds}
use Rattle.tx_requests.specs.Explain.{IsExplained}
use Rattle.tx_requests.specs.Fill.{FillAnswers, fill_prints}
use Rattle.tx_requests.specs.Grade.{GradeAnswers, grade_prints, GradeEnds}
use Rattle.tx_requests.specs.Lint.{read_stop, IsLinted}
use Rattle.tx_requests.specs.Printing.{Printing}
use Rattle.tx_requests.specs.Jobs.{IsJobDone, verdict_status, pair_status}
use Rattle.tx_requests.specs.Mend.{MendAnswers, mend_prints, MendEnds}
use Rattle.tx_requests.specs.Order.{OrderAnswers, order_prints, OrderEnds}
use Rattle.tx_requests.specs.Page.{PageAnswers, PagePrints, PageEnds}
use Rattle.tx_requests.specs.Runs.{IsRunDone, IsTellingDone}
use Rattle.tx_requests.specs.Survive.{SurviveAnswers, survive_prints, SurviveEnds}
use Rattle.tx_requests.specs.Through.{ThroughAnswers, through_prints}
use Rattle.tx_requests.specs.Trace.{TraceAnswers, trace_prints}
use Rattle.tx_requests.specs.WayChanges.{WaysAnswers, ways_prints}

-- what is down while a command judges plans, if anything is
abbrev pub down_of : Command → Option Down
down_of (Audit r) = r.down
down_of (Change r) = r.down
down_of (Order r) = r.down
down_of (Mend r) = r.down
down_of (Survive r) = r.down
down_of (Compare r) = r.down
down_of (Page r) = r.down
down_of (Grade r) = r.down
down_of other = None

module _ {P W : Type 0} (rest : P → Option (List ℕ)) (failed : P → Bool)
    (called : ℕ → Result ℕ ReadFault → P → P → Type 0) (old new : P) (second third : Input)
    (taken : W → Option (List ℕ)) (marked : W → Bool) (before after : W) where
  -- the first text
  abbrev pub first : Input
  first = input rest failed called old new

  -- the output
  abbrev pub out : Output
  out = output taken before after

  module _ {A : Type 0} where
    module _ {X : Type 0} (answers : Result X JobFault → Type 0)
        (ends : X → Result (Ending A) CommandFault → Type 0) where
      -- the job answered this, and that is what the command came to
      abbrev pub ByJob : Result (Ending A) CommandFault → Type 0
      ByJob result = IsJobDone answers ends (marked before) (marked after) result

    module _ {C T N : Type 0} (reads : Result T CommandFault → Type 0)
        (answers : C → T → Result N CommandFault → Type 0) (prints : C → N → Printing)
        (ends : C → N → Result (Ending A) CommandFault → Type 0) where
      -- its texts were read, and the request was carried out over them
      pub record ByRequest (request : C) (result : Result (Ending A) CommandFault) : Type 0 where
        pub texts : Result T CommandFault
        pub read : reads texts
        pub carried : IsCarriedOut answers prints ends request taken marked before after texts result

    -- each command by its job, or as a request
    abbrev pub IsDone : Command → Result (Ending A) CommandFault → Type 0
    IsDone Pipe result = ByJob (PipeJobAnswers rest failed called old new out)
        (λ summary. EndsWith 0) result × second.unread × third.unread
    IsDone (Run r) result =
        IsRunDone r.checked first second third out (marked before) (marked after) result
    IsDone (RunTelling r) result =
        IsTellingDone (record { echo = r.echo; summary = r.summary }) r.strict r.run.checked
        first second third out (marked before) (marked after) result
    IsDone (Check r) result =
        ByJob (CheckJobAnswers r.limits.limit r.limits.spare first second out)
        (λ verdict. EndsWith (verdict_status verdict)) result × third.unread
    IsDone (Codes r) result = ByJob (CodesJobAnswers first out)
        (λ pair. EndsWith (pair_status pair)) result × second.unread × third.unread
    IsDone (Audit r) result = IsAudited taken marked before after first r r.down result
        × second.unread × third.unread
    IsDone (Lint r) result =
        IsLinted r first second out (marked before) (marked after) result
        × (failed new ≡ true → result ≡ Err read_stop) × third.unread
    IsDone (Change r) result =
        ByRequest (ReadsLeft two_plans AreLeft r.down (ReadsPlans first second)) ChangeAnswers
        change_prints ChangeEnds r result
        × third.unread
    IsDone (Order r) result =
        ByRequest (ReadsLeft two_plans AreLeft r.down
        (ReadsStopped r.stopped (is_some r.done) first second third)) OrderAnswers
        order_prints OrderEnds r result
    IsDone (Mend r) result =
        ByRequest (ReadsLeft plan_said IsTextLeft r.down (ReadsWhole This first)) MendAnswers
        mend_prints MendEnds r result
        × second.unread × third.unread
    IsDone (Survive r) result =
        ByRequest (ReadsLeft plan_at_risk IsLeftAtRisk r.down
        (ReadsWithRisks (is_some r.risks) first second)) SurviveAnswers (λ r. survive_prints)
        (λ r. SurviveEnds) r result × third.unread
    IsDone (Compare r) result =
        ByRequest (ReadsLeft plans_at_risk AreLeftAtRisk r.down
        (ReadsPlansWithRisks (is_some r.risks) first second third)) CompareAnswers
        (λ r. ComparePrints) (λ r. CompareEnds) r result
    IsDone (Page r) result =
        ByRequest (ReadsLeft page_plans IsLeftForPage r.down
        (ReadsForPage (is_some r.risks) (is_some r.old) first second third)) PageAnswers
        PagePrints (λ r. PageEnds) r result
    IsDone (Grade r) result =
        ByRequest (ReadsLeft one_plan IsPlanLeft r.down (ReadsPlan first)) (λ r. GradeAnswers)
        (λ r. grade_prints) (λ r. GradeEnds) r result
        × second.unread × third.unread
    IsDone (Trace r) result =
        ByRequest (ReadsPlan first) (TraceAnswers {A = A}) (λ r. trace_prints) (λ r. EndsWell) r result
        × second.unread × third.unread
    IsDone (TraceThrough r) result =
        ByRequest (ReadsPlan first) (ThroughAnswers {A = A}) (λ r. through_prints) (λ r. EndsWell) r
        result
        × second.unread × third.unread
    IsDone (TraceChanges r) result =
        ByRequest (ReadsWithOld first second) (WaysAnswers {A = A}) (λ r. ways_prints) (λ r. EndsWell) r
        result
        × third.unread
    IsDone (Fill r) result =
        ByRequest (ReadsPlan first) (FillAnswers {A = A}) (λ r. fill_prints) (λ r. EndsWell) r result
        × second.unread × third.unread
    IsDone (Explain r) result =
        IsExplained r (taken before) (taken after) (marked before) (marked after) result
        × first.unread × second.unread × third.unread
