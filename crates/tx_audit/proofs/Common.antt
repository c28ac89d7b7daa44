-- The names that most proofs here cite, passed on from one place. Declares nothing.
pub use Rattle.std.proofs.Common.{Bool, Err, List, None, Ok, Option, Result, Some, [], ap, append-nil, append_assoc, arith, drop, eq-eqb, eqb-true, false, get_or, inl, inr, length, map, nat_le, refl, subst, suc, sym, take, take_all, true, zero, ℕ, ◌&&◌, ◌++◌, ◌+◌, ◌-◌, ◌<◌, ◌==◌, ◌^◌, ◌||◌, ◌∙◌, ◌∷◌, ◌≡◌, ◌≢◌, ◌≤◌}
pub use Rattle.std.proofs.lemmas.Bool.{and_parts, not-true}
pub use Rattle.std.proofs.lemmas.List.{drop_all, length-map}
pub use Rattle.std.proofs.lemmas.Option.{same_Some, slice_get_read, slice_get_within}
pub use Rattle.std.specs.List.{AllByRecursion, flat_map, list_any, range_with_len}
pub use Rattle.std.specs.Option.{option_map, option_map_or}
pub use Rattle.std.specs.Ordering.{nat_cmp}
pub use Rattle.std.specs.Prelude.{filter, find, if◌then◌else◌, is_some, option_and_then, slice_get}
pub use Rattle.tx_audit.specs.Breaks.{Shows}
pub use Rattle.tx_audit.specs.Counter.{calls_from, counter_of, events_along, first_code, first_counter_of, first_line, first_range, has_counter, is_single, listed_before, low_line, shut_events, step_events, turns_on_one, walk_events, walked_by}
pub use Rattle.tx_machine.proofs.Lists.{any_mem, at_index, find_mem}
pub use Rattle.tx_machine.proofs.Playing.{AllUp, Groups, Plays, plays_first, plays_none, plays_one, plays_then, shut, shut_among}
pub use Rattle.tx_machine.proofs.Steps.{all_mem}
pub use Rattle.tx_machine.proofs.Uses.{two_ends}
pub use Rattle.tx_machine.specs.InUse.{choice, first_free}
pub use Rattle.tx_machine.specs.Members.{NoneTwice}
pub use Rattle.tx_machine.specs.Passed.{is_transit}
pub use Rattle.tx_machine.specs.Refusals.{is_group}
pub use Rattle.tx_machine.specs.State.{Net, State, opening}
pub use Rattle.tx_machine.specs.declared.event.Event.{Event}
pub use Rattle.tx_machine.specs.declared.event.Event.TheVariants.{Block, Confirm, Route, Unblock}
pub use Rattle.tx_machine.specs.declared.open_call.Hop.{Hop}
pub use Rattle.tx_machine.specs.declared.open_call.Phase.TheVariants.{Standing}
pub use Rattle.tx_plan.proofs.ByIndex.{entry_at}
pub use Rattle.tx_plan.specs.Among.{Among}
pub use Rattle.tx_plan.specs.Circuits.{count_of, direction_of, is_both, may_seize, other_end}
pub use Rattle.tx_plan.specs.Codes.{code_of}
pub use Rattle.tx_plan.specs.Plan.{Code, Group, Plan, figures_of, home_of}
pub use Rattle.tx_plan.specs.Routes.{is_origin, route_list}
pub use Rattle.tx_plan.specs.Rules.{IsPlan, IsRange}
pub use Rattle.tx_plan.specs.declared.ids.Circuit.{Circuit}
pub use Rattle.tx_plan.specs.declared.ids.Line.{Line}
pub use Rattle.tx_plan.specs.declared.range.LineRange.{LineRange}
pub use Rattle.tx_rank.proofs.Ways.{once_first}
pub use Rattle.tx_rank.specs.Findings.{IsTrueOf}
pub use Rattle.tx_rank.specs.Walks.{AllDiffer, Goes, IsWalk, Walk, before_end, end_of, net_of}
pub use Rattle.tx_rank.specs.declared.finding.Finding.{Finding}
pub use Rattle.tx_rank.specs.declared.finding.Finding.TheVariants.{Ambiguous, Long, Loop, Short}
pub use Rattle.tx_script.specs.Events.{IsWritable, event_text}
pub use Rattle.tx_text.proofs.CallCounts.{calls_so_far, went_none}
pub use Rattle.tx_text.proofs.Exits.{exits_with}
pub use Rattle.tx_text.specs.Calls.{source_calls}
pub use Rattle.tx_text.specs.Ends.{Input, Output, input, output}
pub use Rattle.tx_text.specs.Words.{are_figures}
