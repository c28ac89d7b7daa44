-- The names that most proofs here cite, passed on from one place. Declares nothing.
pub use Rattle.std.proofs.Common.{Bool, Err, List, None, Ok, Option, Result, Some, [], ap, arith, drop, false, inl, inr, length, length-append, min, refl, rules, subst, suc, sym, take, true, zero, ℕ, ◌++◌, ◌+◌, ◌-◌, ◌∙◌, ◌∷◌, ◌≡◌, ◌≤◌, ◌⊎◌}
pub use Rattle.std.proofs.lemmas.Bool.{false≢true}
pub use Rattle.std.proofs.lemmas.List.{drop_all, length-drop, length-take-le, take_all}
pub use Rattle.std.specs.Io.KnownBytes.{IsAtEnd, prepend_known}
pub use Rattle.std.specs.Prelude.{if◌then◌else◌, option_map, slice_index}
pub use Rattle.tx_audit.specs.Simulated.{from_opening}
pub use Rattle.tx_jobs.specs.AuditJobs.{audit_fault}
pub use Rattle.tx_jobs.specs.JobFaults.{cert_fault, plan_fault, run_fault, text_fault_line}
pub use Rattle.tx_jobs.specs.Jobs.{ScriptRan, told_run}
pub use Rattle.tx_jobs.specs.Parts.{left_of_plan, plan_part, script_part}
pub use Rattle.tx_jobs.specs.PipeJobs.{PipeRan, PipeRefused}
pub use Rattle.tx_jobs.specs.declared.job_fault.JobFault.{JobFault}
pub use Rattle.tx_jobs.specs.declared.job_fault.JobFault.TheVariants.{Write}
pub use Rattle.tx_jobs.specs.declared.plan_part.PlanPart.{PlanPart}
pub use Rattle.tx_jobs.specs.declared.script_part.ScriptPart.{ScriptPart}
pub use Rattle.tx_jobs.specs.declared.seen.Seen.{Seen}
pub use Rattle.tx_jobs.specs.declared.seen.Seen.TheVariants.{Blanks, Comment, Cr, E, En, End, Other}
pub use Rattle.tx_jobs.specs.inner.Reading.{CalledInput, LeftInput, PartCall, PlanCall, as_script, bytes_left, plan_of, plan_rest, script_of, script_rest}
pub use Rattle.tx_jobs.specs.inner.Seen.{at_lf, is_over}
pub use Rattle.tx_machine.specs.State.{opening}
pub use Rattle.tx_plan.specs.Plan.{Plan}
pub use Rattle.tx_plantext.specs.declared.fault.PlanWord.{PlanWord}
pub use Rattle.tx_script.specs.declared.run_fault.RunFault.{RunFault}
pub use Rattle.tx_script.specs.declared.summary.Summary.{Summary}
pub use Rattle.tx_text.proofs.CallCounts.{calls_so_far, went_none}
pub use Rattle.tx_text.proofs.Exits.{exits_with}
pub use Rattle.tx_text.proofs.ReadingOn.{moves-nil}
pub use Rattle.tx_text.proofs.TextLines.{HasNoLf}
pub use Rattle.tx_text.specs.Calls.{source_calls}
pub use Rattle.tx_text.specs.Ends.{Input, Output, input, output}
pub use Rattle.tx_text.specs.Frame.{is_end}
pub use Rattle.tx_text.specs.Text.{is_lf}
pub use Rattle.tx_text.specs.Wrote.{Wrote}
pub use Rattle.tx_text.specs.declared.frame.FaultAt.{FaultAt}
pub use Rattle.tx_text.specs.declared.frame.FaultKind.{FaultKind}
pub use Rattle.tx_text.specs.declared.frame.FaultKind.TheVariants.{Frame, Word}
pub use Rattle.tx_text.specs.declared.source.ReadFault.{ReadFault}
