-- The names that most proofs here cite, passed on from one place. Declares nothing.
pub use Rattle.std.proofs.Common.{Bool, Err, List, None, Ok, Option, Result, Some, [], ap, append-nil, append_assoc, ap₂, arith, codes, cond, drop, eq-eqb, false, get_or, inl, inr, length, length-append, map, not, refl, rules, subst, sym, true, ℕ, ◌&&◌, ◌++◌, ◌+◌, ◌-◌, ◌<◌, ◌==◌, ◌^◌, ◌||◌, ◌∙◌, ◌∷◌, ◌≡◌, ◌≢◌, ◌≤◌, ◌⊎◌}
pub use Rattle.std.proofs.Math.Facts.{Fits-of_lt}
pub use Rattle.std.proofs.lemmas.Bool.{and_parts, cases_eq, false≢true, ne_eqb}
pub use Rattle.std.proofs.lemmas.Bool.Decides.{nat_tests}
pub use Rattle.std.proofs.lemmas.List.{get_or-replicate, get_or-set_other, get_or-set_same, length-replicate, length-set}
pub use Rattle.std.proofs.lemmas.List.Sums.{count_by-le-length, sum_by_push}
pub use Rattle.std.proofs.lemmas.Slice.Eq.{text_from_reads}
pub use Rattle.std.specs.Io.KnownBytes.{append_known}
pub use Rattle.std.specs.List.{count_by, flat_map, list_any, range_with_len, sum_by}
pub use Rattle.std.specs.Prelude.{filter, if◌then◌else◌, option_map, slice_get}
pub use Rattle.tx_machine.proofs.Lists.{first_of, none_in}
pub use Rattle.tx_machine.proofs.Uses.{calling_on}
pub use Rattle.tx_machine.specs.Call.{Call, call_of, exchange_of, is_first, is_numbered}
pub use Rattle.tx_machine.specs.Confirming.{collide, confirmed, confirmed_by, rival, second_time}
pub use Rattle.tx_machine.specs.Drained.{drained}
pub use Rattle.tx_machine.specs.Ended.{Ended}
pub use Rattle.tx_machine.specs.InUse.{choice, uses_group}
pub use Rattle.tx_machine.specs.Lines.{line_answer}
pub use Rattle.tx_machine.specs.Refusals.{refusal}
pub use Rattle.tx_machine.specs.Runs.{Moment, moment, run, state_after}
pub use Rattle.tx_machine.specs.Sound.{is_refused}
pub use Rattle.tx_machine.specs.State.{State}
pub use Rattle.tx_machine.specs.Step.{accepted, cause_by, counted, keyed_call, step, unless_refused, with_call}
pub use Rattle.tx_machine.specs.declared.cause.Cause.{Cause}
pub use Rattle.tx_machine.specs.declared.cause.Service.{Service}
pub use Rattle.tx_machine.specs.declared.cause.Service.TheVariants.{Na, Nc, Np}
pub use Rattle.tx_machine.specs.declared.cause.TheConstants.Cause.{ALL}
pub use Rattle.tx_machine.specs.declared.event.Event.{Event}
pub use Rattle.tx_machine.specs.declared.event.Event.TheVariants.{Block, CircuitIn, CircuitOut, Clear, Confirm, Fail, Key, LineAway, LineBack, LineFault, LineMend, Released, Restore, Route, Unblock}
pub use Rattle.tx_machine.specs.declared.open_call.Party.{Party}
pub use Rattle.tx_machine.specs.declared.open_call.Phase.{Phase}
pub use Rattle.tx_machine.specs.declared.open_call.Phase.TheVariants.{Calling, Connected, Standing}
pub use Rattle.tx_machine.specs.declared.refusal.Refusal.{Refusal}
pub use Rattle.tx_machine.specs.declared.reply.Reply.{Reply}
pub use Rattle.tx_machine.specs.declared.reply.Reply.TheVariants.{Refused}
pub use Rattle.tx_machine.specs.inner.Invariant.{Holds}
pub use Rattle.tx_plan.proofs.Named.{same_circuit-is, same_circuit-itself}
pub use Rattle.tx_plan.specs.Among.{Among}
pub use Rattle.tx_plan.specs.Codes.{code_of}
pub use Rattle.tx_plan.specs.Orders.{circuit_cmp, same_circuit}
pub use Rattle.tx_plan.specs.Plan.{Group, Plan, home_of}
pub use Rattle.tx_plan.specs.Routes.{is_barred}
pub use Rattle.tx_plan.specs.Rules.{IsPlan, is_national}
pub use Rattle.tx_plan.specs.declared.ids.Circuit.{Circuit}
pub use Rattle.tx_plan.specs.declared.ids.Line.{Line}
pub use Rattle.tx_script.specs.Answers.{Begins, IsFresh, States, next, settled_state}
pub use Rattle.tx_script.specs.Events.{one_word, three_words, two_words}
pub use Rattle.tx_script.specs.Output.{end_text, moment_text, tickets_made}
pub use Rattle.tx_script.specs.Script.{Script}
pub use Rattle.tx_script.specs.Summaries.{calls_line, ended_by, peak_line}
pub use Rattle.tx_script.specs.Taken.{is_taken, peak, uses}
pub use Rattle.tx_script.specs.Telling.{echo_asked, told_events, told_last, told_moment, told_moments}
pub use Rattle.tx_script.specs.TellingAnswers.{FaultyTold, NoneReleasing, StoppedTelling, StopsInLines, TellingAnswers, ToldRan}
pub use Rattle.tx_script.specs.Untold.{IsUntold, StopsAtTicket}
pub use Rattle.tx_script.specs.declared.run_cause.RunCause.{RunCause}
pub use Rattle.tx_script.specs.declared.run_fault.RunFault.{RunFault}
pub use Rattle.tx_script.specs.declared.runner.Answered.{Answered}
pub use Rattle.tx_script.specs.declared.script_word.ScriptWord.{ScriptWord}
pub use Rattle.tx_script.specs.declared.summary.Summary.{Summary}
pub use Rattle.tx_script.specs.declared.teller.Tally.{Tally}
pub use Rattle.tx_script.specs.declared.teller.Telling.{Telling}
pub use Rattle.tx_script.specs.inner.Counting.{AreFew, AreNew, Counted, asked_of, count_for, count_in, counted_on, counted_over, ends_counted, last_lines, still, use_at}
pub use Rattle.tx_script.specs.inner.LineAnswers.{count_of}
pub use Rattle.tx_text.proofs.CallCounts.{calls_so_far, went_none}
pub use Rattle.tx_text.proofs.Putting.{puts_none, puts_then, puts_wrote}
pub use Rattle.tx_text.proofs.Writing.{append_known-nil, append_known_twice, some}
pub use Rattle.tx_text.specs.Calls.{source_calls}
pub use Rattle.tx_text.specs.Ends.{Input, Output, StopsIn}
pub use Rattle.tx_text.specs.Frame.{Done, EndsAs, Framed, Has, Headed, ReadsOn, Stop, Stopped, is_read}
pub use Rattle.tx_text.specs.Puts.{Puts}
pub use Rattle.tx_text.specs.Told.{AtEnd, Ending}
pub use Rattle.tx_text.specs.declared.frame.FaultKind.{FaultKind}
pub use Rattle.tx_text.specs.declared.frame.FaultKind.TheVariants.{Frame, Word}
pub use Rattle.tx_text.specs.declared.frame.FrameFault.{FrameFault}
pub use Rattle.tx_text.specs.declared.frame.FrameStep.{FrameStep}
pub use Rattle.tx_text.specs.inner.Framing.{FrameReading, frame_start, to_come}
pub use Rattle.tx_text.specs.inner.Reading.{reading_size}
pub use Rattle.tx_tickets.specs.Texts.{cause_text, reply_text, ticket_text}
