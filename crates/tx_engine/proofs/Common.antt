-- The names that most proofs here cite, passed on from one place. Declares nothing.
pub use Rattle.indexmap.specs.IndexMap.{IndexMap}
pub use Rattle.slab.proofs.SlabLemmas.{Updates-with_value}
pub use Rattle.std.proofs.Common.{Bool, List, None, OnOk, Option, Some, [], ap, arith, cond, deque_capacity, deque_len, drop, eq-eqb, eqb-true, false, get_or, inl, inr, is_some, length, map, nat_eq, not, refl, rules, subst, suc, sym, true, zero, ℕ, ◌&&◌, ◌++◌, ◌+◌, ◌-◌, ◌<◌, ◌==◌, ◌^◌, ◌||◌, ◌∙◌, ◌∷◌, ◌≡◌, ◌≢◌, ◌≤◌, ◌⊎◌}
pub use Rattle.std.proofs.Math.Bool.{and-false, and-true, or-false, or_comm}
pub use Rattle.std.proofs.lemmas.Bool.{and_from, and_parts, both_ways, cases_eq, eqb-false, false_from_ne_true, false≢true, ne_eqb, not-true, or_cases, or_from, or_left, or_right}
pub use Rattle.std.proofs.lemmas.Bool.Decides.{eqb_tells, nat_tests}
pub use Rattle.std.proofs.lemmas.List.Folds.{list_any-append}
pub use Rattle.std.specs.List.{list_any}
pub use Rattle.std.specs.Option.{option_map, option_map_or}
pub use Rattle.std.specs.Prelude.{filter, find, if◌then◌else◌, nat_le, nat_lt, option_and_then, slice_get, slice_index_or, unwrap_or}
pub use Rattle.tx_circuits.proofs.Seats.{exact_seats, seat_tie, seats_total}
pub use Rattle.tx_circuits.proofs.Unnamed.{is_circuit-same}
pub use Rattle.tx_circuits.specs.Table.{IsSeizedBy, Seat, Table, all_free, with_failure, with_held, withdrawn}
pub use Rattle.tx_engine.specs.declared.circuit_keys.EndKeys.{EndKeys}
pub use Rattle.tx_engine.specs.declared.engine.EngineState.{EngineState}
pub use Rattle.tx_engine.specs.inner.Decided.{IsDecided}
pub use Rattle.tx_engine.specs.inner.GivenBack.{Agrees, AreUsed, CanGiveBack, CanRelease, CanReleaseAll, CanThrowOff, freed_lines, given_back, released_all, thrown_off}
pub use Rattle.tx_engine.specs.inner.InTurn.{IsLosing, collided_end, ended_if, failed_group, uses}
pub use Rattle.tx_engine.specs.inner.KeptCalls.{Changes, Kept, KeptCalls, calls_in, calls_of, kept_at, kept_of, sorted_calls}
pub use Rattle.tx_engine.specs.inner.Keys.{HasKeys, keys_at, keys_of, pick, with_key}
pub use Rattle.tx_engine.specs.inner.Seen.{AreTogether, state_seen}
pub use Rattle.tx_engine.specs.inner.Sound.{AreKeyed, AreSound, IsSound, IsUnder, is_first_end, state_of}
pub use Rattle.tx_engine.specs.inner.Tied.{IsTied}
pub use Rattle.tx_engine.specs.inner.Users.{AreNumbersOf, uses_up_to}
pub use Rattle.tx_lines.specs.Book.{Book, is_line_of}
pub use Rattle.tx_machine.proofs.Lists.{any_mem, any_none, find_mem, find_none, mem_any}
pub use Rattle.tx_machine.proofs.Uses.{an_end, calling_on, two_ends}
pub use Rattle.tx_machine.specs.Call.{Call, call_of, exchange_of, is_numbered, start_of}
pub use Rattle.tx_machine.specs.Confirming.{carried_on, collide, confirmed, confirmed_by, far_of, rival, thrown_back}
pub use Rattle.tx_machine.specs.Ended.{Ended}
pub use Rattle.tx_machine.specs.Ending.{end_call, end_calls, given_up, ticket_of}
pub use Rattle.tx_machine.specs.InUse.{carries, circuits_carried, circuits_used, first_free, is_calling_on, is_free_at, seizes, seizes_from, uses_group}
pub use Rattle.tx_machine.specs.Lines.{is_connected_to, is_engaged, takes_part}
pub use Rattle.tx_machine.specs.Passed.{Joins}
pub use Rattle.tx_machine.specs.Refusals.{refusal}
pub use Rattle.tx_machine.specs.Routing.{in_phase, set_call}
pub use Rattle.tx_machine.specs.Safe.{IsKeyedLine}
pub use Rattle.tx_machine.specs.Seen.{call_seen}
pub use Rattle.tx_machine.specs.State.{Net, State}
pub use Rattle.tx_machine.specs.Step.{accepted, keyed_call, with_call}
pub use Rattle.tx_machine.specs.declared.cause.Cause.{Cause}
pub use Rattle.tx_machine.specs.declared.cause.Service.TheVariants.{Nc}
pub use Rattle.tx_machine.specs.declared.deciding.Decision.{Decision}
pub use Rattle.tx_machine.specs.declared.deciding.Decision.TheVariants.{Connect, Seize}
pub use Rattle.tx_machine.specs.declared.event.Event.TheVariants.{Confirm, Route}
pub use Rattle.tx_machine.specs.declared.open_call.Hop.{Hop}
pub use Rattle.tx_machine.specs.declared.open_call.Phase.{Phase}
pub use Rattle.tx_machine.specs.declared.open_call.Phase.TheVariants.{Calling, Connected, Standing}
pub use Rattle.tx_machine.specs.declared.reply.Reply.{Reply}
pub use Rattle.tx_machine.specs.declared.reply.Reply.TheVariants.{HeadOn, Lost}
pub use Rattle.tx_machine.specs.inner.Decided.{carried_out}
pub use Rattle.tx_machine.specs.inner.Invariant.{Holds, Inv, IsRising}
pub use Rattle.tx_plan.proofs.Among.{among_cases, among_left, among_map, among_right, filter_among}
pub use Rattle.tx_plan.proofs.Named.{circuit_tie, circuits_total, exact_circuits, line_tie, lines_total, same_circuit-is, same_circuit-itself}
pub use Rattle.tx_plan.proofs.Tables.{list_any-map}
pub use Rattle.tx_plan.specs.Among.{Among}
pub use Rattle.tx_plan.specs.Circuits.{count_of, ends_of, far_end, is_circuit, other_end}
pub use Rattle.tx_plan.specs.Lines.{is_line}
pub use Rattle.tx_plan.specs.Orders.{circuit_cmp, line_cmp, same_circuit, same_line}
pub use Rattle.tx_plan.specs.Plan.{Group, Plan}
pub use Rattle.tx_plan.specs.Rules.{IsPlan}
pub use Rattle.tx_plan.specs.declared.ids.Circuit.{Circuit}
pub use Rattle.tx_plan.specs.declared.ids.Line.{Line}
