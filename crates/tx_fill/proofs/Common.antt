-- The names that most proofs here cite, passed on from one place. Declares nothing.
pub use Rattle.std.proofs.Common.{Bool, List, None, Option, Some, [], ap, arith, drop, eqb-true, false, get_or, inl, inr, length, map, nat_le, refl, subst, suc, sym, take, true, zero, ℕ, ◌&&◌, ◌*◌, ◌++◌, ◌+◌, ◌-◌, ◌<◌, ◌==◌, ◌^◌, ◌∙◌, ◌∷◌, ◌≡◌, ◌≢◌, ◌≤◌}
pub use Rattle.std.proofs.lemmas.Bool.{and_from, both_ways}
pub use Rattle.std.proofs.lemmas.List.{drop_more, take_all}
pub use Rattle.std.proofs.lemmas.Map.Steps.{length-le_from_distinct_below}
pub use Rattle.std.proofs.lemmas.Option.{cond_some, get_or_from_slice_get, slice_get_within}
pub use Rattle.std.specs.List.{flat_map, list_all, range_with_len}
pub use Rattle.std.specs.Option.{option_map_or}
pub use Rattle.std.specs.Prelude.{decimal, filter, if◌then◌else◌, replicate, slice_get}
pub use Rattle.std.specs.Str.Parse.{digits_value}
pub use Rattle.tx_fill.specs.CallLines.{figures, line_pairs, lines_of}
pub use Rattle.tx_fill.specs.FillText.{full_line}
pub use Rattle.tx_fill.specs.Fills.{is_full, is_seized, release_of, releases}
pub use Rattle.tx_machine.proofs.Lists.{all_from_mem}
pub use Rattle.tx_machine.specs.Ended.{Ended}
pub use Rattle.tx_machine.specs.Refusals.{refusal}
pub use Rattle.tx_machine.specs.Runs.{state_after}
pub use Rattle.tx_machine.specs.State.{Net, State, opening, ticket_taken}
pub use Rattle.tx_machine.specs.Step.{accepted, counted, step, unless_refused}
pub use Rattle.tx_machine.specs.declared.event.Event.{Event}
pub use Rattle.tx_machine.specs.declared.event.Event.TheVariants.{Block, Confirm, Key, Route}
pub use Rattle.tx_machine.specs.declared.refusal.Refusal.{Refusal}
pub use Rattle.tx_machine.specs.declared.refusal.Refusal.TheVariants.{Exhausted}
pub use Rattle.tx_machine.specs.declared.reply.Reply.{Reply}
pub use Rattle.tx_machine.specs.inner.Invariant.{Holds}
pub use Rattle.tx_plan.proofs.Among.{map_among}
pub use Rattle.tx_plan.proofs.ByIndex.{all_at, entry_at}
pub use Rattle.tx_plan.specs.Among.{Among}
pub use Rattle.tx_plan.specs.Circuits.{may_seize}
pub use Rattle.tx_plan.specs.Lines.{full_number}
pub use Rattle.tx_plan.specs.Numbers.{is_national}
pub use Rattle.tx_plan.specs.Plan.{Plan, home_of}
pub use Rattle.tx_plan.specs.Rules.{IsPlan}
pub use Rattle.tx_plan.specs.declared.ids.Circuit.{Circuit}
pub use Rattle.tx_plan.specs.declared.ids.Line.{Line}
pub use Rattle.tx_rank.proofs.Unmended.{all_distinct, any_among}
pub use Rattle.tx_rank.specs.Walks.{AllDiffer}
pub use Rattle.tx_text.specs.Words.{are_figures, is_figure}
