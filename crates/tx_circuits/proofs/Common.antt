-- The names that most proofs here cite, passed on from one place. Declares nothing.
pub use Rattle.std.proofs.Common.{Bool, List, None, Option, Some, [], ap, arith, cond, drop, eq-eqb, eqb-true, false, inl, inr, length, length-set, map, refl, slice_index_or, slice_set, subst, suc, sym, take, true, zero, ℕ, ◌++◌, ◌+◌, ◌-◌, ◌<◌, ◌==◌, ◌∙◌, ◌∷◌, ◌≡◌, ◌≢◌, ◌≤◌, ◌⊎◌}
pub use Rattle.std.proofs.Math.Bool.{and-false, and-true}
pub use Rattle.std.proofs.lemmas.Bool.{and_from, and_parts}
pub use Rattle.std.proofs.lemmas.Bool.Decides.{eqb_tells, nat_tests}
pub use Rattle.std.proofs.lemmas.Cmp.{tied_itself}
pub use Rattle.std.proofs.lemmas.List.{length-map, length-replicate, map-set, take_all, take_at, with_items_is}
pub use Rattle.std.proofs.lemmas.List.FromFn.{length-map-range_with_len}
pub use Rattle.std.proofs.lemmas.Map.Lookups.{exact_unsigned}
pub use Rattle.std.proofs.lemmas.Option.{slice_get-map, slice_get_within}
pub use Rattle.std.specs.Cmp.{Equal-is, IsTotalOrder, nat_cmp_total}
pub use Rattle.std.specs.FinSet.{contains, insert, remove, retain}
pub use Rattle.std.specs.List.{range_with_len}
pub use Rattle.std.specs.Option.{option_map, option_map_or}
pub use Rattle.std.specs.Ordering.{eq_by_cmp, is_eq, nat_cmp}
pub use Rattle.std.specs.Prelude.{IfSome, filter, find, if◌then◌else◌, is_some, nat_le, nat_lt, not, option_and_then, replicate, slice_get, unwrap_or, ◌&&◌, ◌||◌}
pub use Rattle.std.specs.declared.cmp.Ordering.TheVariants.{Equal}
pub use Rattle.tx_circuits.specs.Table.{Seat, Table, first_free, is_down, is_free_at, plan_of, released_unless, seat_cmp, with_failure, with_held, with_released, withdrawn, without_name}
pub use Rattle.tx_circuits.specs.declared.groups.GroupHead.{GroupHead}
pub use Rattle.tx_circuits.specs.declared.groups.Row.{Row}
pub use Rattle.tx_circuits.specs.declared.lists.End.{End}
pub use Rattle.tx_circuits.specs.declared.lists.End.TheVariants.{First, Other}
pub use Rattle.tx_circuits.specs.declared.lists.FreeList.{FreeList}
pub use Rattle.tx_circuits.specs.declared.lists.FreeLists.{FreeLists}
pub use Rattle.tx_circuits.specs.declared.lists.Way.{Way}
pub use Rattle.tx_circuits.specs.declared.lists.Way.TheVariants.{Down, Up}
pub use Rattle.tx_circuits.specs.declared.slot.CircuitState.{CircuitState}
pub use Rattle.tx_circuits.specs.declared.slot.Slot.{Slot}
pub use Rattle.tx_circuits.specs.inner.Groups.{AreApart, AreKept, GroupState, IsAppended, change_at, end_at, entry_numbered, first_index, free_slot, group_slots, group_state, idle, seizing_end, set_numbered, state_at, way_of, with_blocked, with_failed, with_state}
pub use Rattle.tx_circuits.specs.inner.Linked.{Follows, IsFirst, IsLast, IsLinked, with}
pub use Rattle.tx_circuits.specs.inner.Seen.{circuits_of, gathered_keys, group_of, holds, is_marked, seats_of, sits, table_of, those}
pub use Rattle.tx_circuits.specs.inner.Slots.{IsListed, IsSound, ahead, back, chain, cleared_state, falling, free_at, free_in, has_seized, in_order, is_free, link_at, links_of, list_of, list_of_all, opposite, rank_of, rising, state_of, until, with_seized}
pub use Rattle.tx_plan.proofs.Named.{circuits_total, exact_circuits, same_circuit-is, same_circuit-itself}
pub use Rattle.tx_plan.specs.Circuits.{circuits_at, is_both, is_circuit, may_seize, may_seize_row, order_at, upward}
pub use Rattle.tx_plan.specs.Orders.{circuit_cmp, same_circuit}
pub use Rattle.tx_plan.specs.Plan.{Group, Plan}
pub use Rattle.tx_plan.specs.declared.ids.Circuit.{Circuit}
