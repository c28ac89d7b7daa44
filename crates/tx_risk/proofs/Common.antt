-- The names that most proofs here cite, passed on from one place. Declares nothing.
pub use Rattle.std.proofs.Common.{Bool, Err, List, None, Ok, Option, Some, Vec, [], ap, append-nil, append_assoc, arith, codes, cond, eq-eqb, eqb-true, false, get_or, inl, inr, length, length-append, map, nat_lt, not, refl, rules, subst, suc, sym, take, tests, true, vec_capacity, vec_len, zero, ℕ, ◌&&◌, ◌++◌, ◌+◌, ◌<◌, ◌==◌, ◌∙◌, ◌∷◌, ◌≡◌, ◌≢◌, ◌≤◌, ◌⊎◌}
pub use Rattle.std.proofs.Math.ListN.{set}
pub use Rattle.std.proofs.lemmas.Bool.{and_parts, both_ways, cases_eq, eqb-false, false_from_ne_true, false≢true, ltb-false, ltb-true, ne_eqb, not-false, not-true}
pub use Rattle.std.proofs.lemmas.Iterator.Search.{any_from_yields_List}
pub use Rattle.std.proofs.lemmas.List.{map-append, take_all, take_more}
pub use Rattle.std.proofs.lemmas.List.Sorted.{IsPartitionPoint-from_clause}
pub use Rattle.std.proofs.lemmas.Option.{none-some, same_Some, slice_get-get_or, slice_get_read, slice_get_within}
pub use Rattle.std.specs.List.{AllByRecursion, filter_map, list_any, range_with_len}
pub use Rattle.std.specs.Option.{option_and_then, option_map_or}
pub use Rattle.std.specs.Prelude.{IsPermutation, filter, find, if◌then◌else◌, is_none, is_some, replicate, slice_get}
pub use Rattle.std.specs.Str.{bytes_eq}
pub use Rattle.tx_cert.specs.Certificate.{ranks_of}
pub use Rattle.tx_machine.proofs.Invariant.{inv_opening}
pub use Rattle.tx_machine.proofs.Lists.{any_mem, find_mem, none_any}
pub use Rattle.tx_machine.proofs.Moves.{IsNew, Moves, came, connects, falls_back, goes_on, seizes_one, stays}
pub use Rattle.tx_machine.proofs.Steps.{all_mem, step_keeps}
pub use Rattle.tx_machine.specs.Call.{Call, call_of, circuit_called, exchange_of, is_first, start_of}
pub use Rattle.tx_machine.specs.Confirming.{confirmed, confirmed_by, far_of, rival}
pub use Rattle.tx_machine.specs.Ending.{answered}
pub use Rattle.tx_machine.specs.Lines.{line_answer}
pub use Rattle.tx_machine.specs.Refusals.{refusal}
pub use Rattle.tx_machine.specs.Routing.{at_line, at_trunk, line_of, routed_for}
pub use Rattle.tx_machine.specs.State.{State, opening}
pub use Rattle.tx_machine.specs.Step.{accepted, counted, step, unless_refused, with_call}
pub use Rattle.tx_machine.specs.declared.cause.Service.{Service}
pub use Rattle.tx_machine.specs.declared.cause.Service.TheVariants.{Na}
pub use Rattle.tx_machine.specs.declared.event.Event.{Event}
pub use Rattle.tx_machine.specs.declared.event.Event.TheVariants.{Block, CircuitIn, CircuitOut, Clear, Confirm, Fail, Key, LineAway, LineBack, LineFault, LineMend, Released, Restore, Route, Unblock}
pub use Rattle.tx_machine.specs.declared.open_call.Hop.{Hop}
pub use Rattle.tx_machine.specs.declared.open_call.Phase.{Phase}
pub use Rattle.tx_machine.specs.declared.open_call.Phase.TheVariants.{Calling, Connected, Standing}
pub use Rattle.tx_machine.specs.declared.refusal.Refusal.{Refusal}
pub use Rattle.tx_machine.specs.declared.reply.Reply.{Reply}
pub use Rattle.tx_machine.specs.declared.reply.Reply.TheVariants.{Answered}
pub use Rattle.tx_machine.specs.inner.Invariant.{Holds}
pub use Rattle.tx_plan.proofs.Among.{all_among, among_all, among_cases, among_filter, among_left, among_map, among_right, filter_among, map_among}
pub use Rattle.tx_plan.proofs.ByIndex.{all_at, entry_at, pairs_put, take_next}
pub use Rattle.tx_plan.proofs.Lists.{all_map}
pub use Rattle.tx_plan.proofs.Tables.{value_at}
pub use Rattle.tx_plan.specs.Among.{Among}
pub use Rattle.tx_plan.specs.Certified.{IsCertified, Ranks}
pub use Rattle.tx_plan.specs.Circuits.{ends_of, far_end}
pub use Rattle.tx_plan.specs.Codes.{code_of}
pub use Rattle.tx_plan.specs.Declaring.{has_group}
pub use Rattle.tx_plan.specs.Plan.{Plan, group_name, group_named, home_of}
pub use Rattle.tx_plan.specs.Routes.{is_barred, is_origin_for, route_list}
pub use Rattle.tx_plan.specs.Rules.{EachPair, IsPlan}
pub use Rattle.tx_plan.specs.declared.ids.Circuit.{Circuit}
pub use Rattle.tx_plan.specs.declared.ids.Line.{Line}
pub use Rattle.tx_rank.proofs.Certifying.{certifies_code}
pub use Rattle.tx_rank.proofs.Looks.{among_at, got_at}
pub use Rattle.tx_rank.proofs.Nets.{is_net}
pub use Rattle.tx_rank.proofs.Origins.{at_push}
pub use Rattle.tx_rank.proofs.Ranks.{Falls}
pub use Rattle.tx_rank.specs.Walks.{AllDiffer, Goes, Net, end_of, net_of, passed}
pub use Rattle.tx_risk.specs.NamedRisks.{AreRisksFor, AreWithin, NamedRisk, named_groups, risk_in, risk_name}
pub use Rattle.tx_risk.specs.Outages.{AreCutsBelow, AreCutsOfCode, IsOutcome, fails_at, risk_of}
pub use Rattle.tx_risk.specs.Risks.{IsCut, IsDeadEnd, LeadsHome, Risk, left_of, net_without, without}
pub use Rattle.tx_risk.specs.Served.{AllDown, IsClear, NoneOnFailed}
pub use Rattle.tx_risk.specs.declared.cut.Cut.{Cut}
pub use Rattle.tx_risk.specs.declared.cut.Leg.{Leg}
pub use Rattle.tx_risk.specs.declared.cut.Outcome.{Outcome}
pub use Rattle.tx_risk.specs.declared.nearest.Step.{Step}
pub use Rattle.tx_risk.specs.declared.nearest.Ways.{Ways}
pub use Rattle.tx_risk.specs.declared.outage.Outage.{Outage}
pub use Rattle.tx_risk.specs.declared.outage.Outage.TheVariants.{Exchange, Group, Named}
pub use Rattle.tx_risk.specs.inner.Cutting.{Adds, AreCuts, AreCutsBefore}
pub use Rattle.tx_risk.specs.inner.Hits.{AreEnds, TakesItsGroups, is_emptied}
pub use Rattle.tx_risk.specs.inner.InOrder.{comes_before}
pub use Rattle.tx_risk.specs.inner.Left.{IsLeft, Left, gone, left_net}
pub use Rattle.tx_risk.specs.inner.Marked.{marked}
pub use Rattle.tx_risk.specs.inner.Nearest.{AreAllWays, AreDeadEnds, AreDeadEndsKept, AreWaysFrom, Grows, LeadsToDeadEnd, dead_end_at, has_way_home, home_alone, nearest_step, ways_in}
pub use Rattle.tx_risk.specs.inner.Orders.{IsByRank, IsOrder, is_above, rank_or_0}
pub use Rattle.tx_risk.specs.inner.Rows.{risk_of_row}
pub use Rattle.tx_text.proofs.Exits.{exits_with}
pub use Rattle.tx_text.specs.Said.{Declared}
pub use Rattle.tx_text.specs.Told.{AtEnd}
