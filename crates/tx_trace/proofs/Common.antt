-- The names that most proofs here cite, passed on from one place. Declares nothing.
pub use Rattle.std.proofs.Common.{Bool, List, None, Option, Some, [], ap, append-nil, append_assoc, arith, cond, eqb, eqb-true, false, inl, inr, length, map, not, refl, rules, subst, suc, sym, take, true, zero, ℕ, ◌&&◌, ◌++◌, ◌+◌, ◌-◌, ◌<◌, ◌==◌, ◌||◌, ◌∙◌, ◌∷◌, ◌≡◌, ◌≢◌, ◌≤◌}
pub use Rattle.std.proofs.Math.ListN.{length-set, set}
pub use Rattle.std.proofs.lemmas.Bool.{cases_lt, eq-eqb, eqb-false, false≢true, ne_eqb, not-true}
pub use Rattle.std.proofs.lemmas.List.{length-map, length_push, map-append}
pub use Rattle.std.proofs.lemmas.List.Elements.{filter-append}
pub use Rattle.std.proofs.lemmas.List.Sums.{length-filter}
pub use Rattle.std.proofs.lemmas.Map.Steps.{length-le_from_distinct_below}
pub use Rattle.std.specs.List.{AllByRecursion, enumerate_from, filter_map, flat_map, fold, list_any, range_with_len}
pub use Rattle.std.specs.Option.{option_map, option_map_or, option_to_list}
pub use Rattle.std.specs.Ordering.{nat_cmp}
pub use Rattle.std.specs.Prelude.{filter, find, if◌then◌else◌, is_some, option_and_then, slice_get}
pub use Rattle.tx_cert.specs.Certificate.{rank_at}
pub use Rattle.tx_machine.proofs.Lists.{any_mem, find_mem, mem_any}
pub use Rattle.tx_machine.proofs.Uses.{chosen}
pub use Rattle.tx_machine.specs.InUse.{choice, first_free, first_in, is_free_at}
pub use Rattle.tx_machine.specs.Lines.{line_answer}
pub use Rattle.tx_machine.specs.Routing.{at_line, line_of}
pub use Rattle.tx_machine.specs.Runs.{replies}
pub use Rattle.tx_machine.specs.State.{State}
pub use Rattle.tx_machine.specs.Step.{step}
pub use Rattle.tx_machine.specs.declared.cause.Service.{Service}
pub use Rattle.tx_machine.specs.declared.event.Event.{Event}
pub use Rattle.tx_machine.specs.declared.open_call.Hop.{Hop}
pub use Rattle.tx_machine.specs.declared.open_call.Phase.TheVariants.{Standing}
pub use Rattle.tx_machine.specs.declared.reply.Reply.{Reply}
pub use Rattle.tx_plan.proofs.Among.{among_cases}
pub use Rattle.tx_plan.proofs.ByIndex.{take_next}
pub use Rattle.tx_plan.specs.Among.{Among}
pub use Rattle.tx_plan.specs.Circuits.{circuits_at, other_end}
pub use Rattle.tx_plan.specs.Codes.{code_of}
pub use Rattle.tx_plan.specs.Plan.{Plan, Route, home_of}
pub use Rattle.tx_plan.specs.Routes.{is_barred, route_list}
pub use Rattle.tx_plan.specs.Rules.{EachPair, IsPlan}
pub use Rattle.tx_plan.specs.declared.ids.Circuit.{Circuit}
pub use Rattle.tx_plan.specs.declared.ids.Line.{Line}
pub use Rattle.tx_plan.specs.declared.ids.Pair.{Pair}
pub use Rattle.tx_rank.proofs.Looks.{among_at}
pub use Rattle.tx_rank.proofs.Nets.{is_net}
pub use Rattle.tx_rank.proofs.Trails.{before_longer}
pub use Rattle.tx_rank.proofs.Unmended.{all_distinct, any_among, passed_below, passed_count}
pub use Rattle.tx_rank.proofs.Ways.{end_push, goes_push, once_push}
pub use Rattle.tx_rank.specs.Heights.{IsHeight, IsReached, RanksByHeight}
pub use Rattle.tx_rank.specs.Nets.{Certifies, IsNet}
pub use Rattle.tx_rank.specs.Walks.{AllDiffer, Goes, Net, before_end, end_of, net_of, passed}
pub use Rattle.tx_text.proofs.Putting.{puts_all, puts_is, puts_more, puts_none, puts_then, puts_wrote}
pub use Rattle.tx_text.proofs.Writing.{some}
pub use Rattle.tx_text.specs.Puts.{Puts}
pub use Rattle.tx_trace.specs.Heights.{greatest, height, height_within}
pub use Rattle.tx_trace.specs.Left.{groups_left, plan_left, route_left, routes_left}
pub use Rattle.tx_trace.specs.Ranked.{net_from}
pub use Rattle.tx_trace.specs.Through.{passing, passing_for}
pub use Rattle.tx_trace.specs.ThroughText.{call_line}
pub use Rattle.tx_trace.specs.TraceText.{met_lines, place_line}
pub use Rattle.tx_trace.specs.Traces.{rank_told}
pub use Rattle.tx_trace.specs.WayChanges.{AreWaysIn, calls_of, changed_at, changed_for}
pub use Rattle.tx_trace.specs.WayChangesText.{change_of, only_line}
pub use Rattle.tx_trace.specs.Ways.{all_met, far_ends, has_free, is_in, meet, meet_from, met_before, next_step}
pub use Rattle.tx_trace.specs.inner.Marked.{AreMarksOf}
