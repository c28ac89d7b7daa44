-- The names that most proofs here cite, passed on from one place. Declares nothing.
pub use Rattle.std.proofs.Common.{Bool, List, None, Option, Some, [], add-one, ap, append_assoc, arith, cond, drop, eq-eqb, eqb-true, false, get_or, inl, inr, length, map, not, refl, rules, subst, suc, sym, take, true, vec_capacity, vec_len, zero, ℕ, ◌&&◌, ◌*◌, ◌++◌, ◌+◌, ◌-◌, ◌<◌, ◌==◌, ◌^◌, ◌||◌, ◌∙◌, ◌∷◌, ◌≡◌, ◌≢◌, ◌≤◌, ◌⊎◌}
pub use Rattle.std.proofs.Math.Bool.{and-false}
pub use Rattle.std.proofs.Math.Seq.{drop-cons}
pub use Rattle.std.proofs.lemmas.Bool.{and_from, and_parts, both_ways, cases_eq, eqb-false, false_from_ne_true, false≢true, ne_eqb, not-false, not-true, or_parts, or_right, true≢false}
pub use Rattle.std.proofs.lemmas.Bool.Decides.{nat_tests}
pub use Rattle.std.proofs.lemmas.List.{append-nil, drop_all, length-set, map_push, take_all, with_items_is}
pub use Rattle.std.proofs.lemmas.List.Folds.{list_any-append}
pub use Rattle.std.proofs.lemmas.Option.{same_Some, slice_get_within}
pub use Rattle.std.specs.List.{AllByRecursion, enumerate_from, flat_map, list_any}
pub use Rattle.std.specs.Option.{option_map, option_map_or}
pub use Rattle.std.specs.Ordering.{eq_by_cmp, nat_cmp}
pub use Rattle.std.specs.Prelude.{Vec, filter, find, if◌then◌else◌, is_none, is_some, nat_le, option_and_then, slice_get, slice_set, unwrap_or}
pub use Rattle.std.specs.Vec.{with_items}
pub use Rattle.tx_machine.specs.Call.{Call, Calling, Connected, Phase, Standing, call_of, circuit_called, exchange_of, is_calling, is_first, is_numbered, is_standing, last_exchange, start_of}
pub use Rattle.tx_machine.specs.Confirming.{carried_on, collide, confirmed, confirmed_by, far_of, rival, second_time, thrown_back}
pub use Rattle.tx_machine.specs.Drained.{drained}
pub use Rattle.tx_machine.specs.Ended.{Ended}
pub use Rattle.tx_machine.specs.Ending.{answered, end_calls, given_up, ticket_of}
pub use Rattle.tx_machine.specs.Excused.{FewDown, IsExcused, IsNcByCollision, OthersFree, routed_call}
pub use Rattle.tx_machine.specs.InUse.{carries, choice, circuits_carried, circuits_used, first_free, first_in, is_calling_on, is_down, is_free_at, seizes, seizes_from, uses_group}
pub use Rattle.tx_machine.specs.Lines.{is_engaged, line_answer, lines_of, takes_part}
pub use Rattle.tx_machine.specs.Members.{NoneTwice}
pub use Rattle.tx_machine.specs.Passed.{Joins}
pub use Rattle.tx_machine.specs.Refusals.{is_group, is_other, refusal, refusals}
pub use Rattle.tx_machine.specs.Routing.{at_line, at_trunk, in_phase, line_of, routed, routed_for, set_call}
pub use Rattle.tx_machine.specs.Runs.{replies, run, state_after}
pub use Rattle.tx_machine.specs.Safe.{FallsInRank, IsKeyedLine, IsOnlyLine, IsSafe, IsSafeCall, JoinsAndCarriesOnce, OfConnected, TakesPartOnce}
pub use Rattle.tx_machine.specs.Seen.{call_seen}
pub use Rattle.tx_machine.specs.Sound.{is_refused, routes_of}
pub use Rattle.tx_machine.specs.State.{Net, State, opening}
pub use Rattle.tx_machine.specs.Step.{accepted, cause_by, counted, failed_at, keyed_call, step, unless_refused, with_call}
pub use Rattle.tx_machine.specs.declared.cause.Cause.{Cause}
pub use Rattle.tx_machine.specs.declared.cause.Service.{Service}
pub use Rattle.tx_machine.specs.declared.cause.Service.TheVariants.{Abs, Der, Na, Nc, Np, Occ}
pub use Rattle.tx_machine.specs.declared.event.Event.{Event}
pub use Rattle.tx_machine.specs.declared.event.Event.TheVariants.{Block, CircuitIn, CircuitOut, Clear, Confirm, Fail, Key, LineAway, LineBack, LineFault, LineMend, Released, Restore, Route, Unblock}
pub use Rattle.tx_machine.specs.declared.open_call.Hop.{Hop}
pub use Rattle.tx_machine.specs.declared.open_call.OpenCall.{OpenCall}
pub use Rattle.tx_machine.specs.declared.open_call.Party.TheVariants.{Called, Caller}
pub use Rattle.tx_machine.specs.declared.plain.changing.Change.{Change}
pub use Rattle.tx_machine.specs.declared.plain.changing.Change.TheVariants.{Carry, ThrowBack, To}
pub use Rattle.tx_machine.specs.declared.plain.ended_calls.Ends.{Ends}
pub use Rattle.tx_machine.specs.declared.refusal.Refusal.{Refusal}
pub use Rattle.tx_machine.specs.declared.reply.Reply.{Reply}
pub use Rattle.tx_machine.specs.declared.reply.Reply.TheVariants.{Answered, At, Done, HeadOn, Seized}
pub use Rattle.tx_machine.specs.inner.Decided.{carried_out}
pub use Rattle.tx_machine.specs.inner.GivenUp.{AreMarked, ends_by, is_given, with_more}
pub use Rattle.tx_machine.specs.inner.Invariant.{AreApart, Holds, Inv, IsKept, IsRanked, IsRising, IsUnused}
pub use Rattle.tx_machine.specs.inner.Marked.{AreFor}
pub use Rattle.tx_machine.specs.inner.Marks.{Circuits, Groups, HasMark, IsCleared, circuits_of, groups_of, index_of}
pub use Rattle.tx_machine.specs.inner.Seen.{HasRoom, IsReady, change_at, changed_call}
pub use Rattle.tx_machine.specs.inner.Whole.{AreHeld, net_of}
pub use Rattle.tx_plan.proofs.Among.{among_at, among_cases, among_left, among_map, among_right, filter_among, flat_among, map_among}
pub use Rattle.tx_plan.proofs.CommonRanks.{mixture_certified}
pub use Rattle.tx_plan.proofs.Lists.{all_map, at_least}
pub use Rattle.tx_plan.proofs.Longest.{longest_among}
pub use Rattle.tx_plan.proofs.Named.{by_cmp-is, circuits_total, exact_circuits, in_lines, same_circuit-is, same_line-is}
pub use Rattle.tx_plan.specs.Among.{Among}
pub use Rattle.tx_plan.specs.Certified.{IsCertified, Ranks}
pub use Rattle.tx_plan.specs.Circuits.{circuits_at, downward, far_end, is_circuit, may_seize, order_at, other_end, upward}
pub use Rattle.tx_plan.specs.Codes.{after, code_of, codes_before, is_prefix, longest}
pub use Rattle.tx_plan.specs.Declaring.{first_true}
pub use Rattle.tx_plan.specs.Lines.{in_range, is_line}
pub use Rattle.tx_plan.specs.Mixtures.{SameNetwork}
pub use Rattle.tx_plan.specs.Orders.{circuit_cmp, line_cmp, same_circuit, same_line}
pub use Rattle.tx_plan.specs.Plan.{Code, Group, Plan, figures_of, home_of}
pub use Rattle.tx_plan.specs.Routes.{is_barred, route_list}
pub use Rattle.tx_plan.specs.Rules.{EachPair, IsPlan, IsRoute, is_national}
pub use Rattle.tx_plan.specs.declared.ids.Circuit.{Circuit}
pub use Rattle.tx_plan.specs.declared.ids.Line.{Line}
pub use Rattle.tx_plan.specs.declared.range.LineRange.{LineRange}
pub use borrow.Author.Count.{falls}
