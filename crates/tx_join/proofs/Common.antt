-- The names that most proofs here cite, passed on from one place. Declares nothing.
pub use Rattle.std.proofs.Common.{Bool, List, None, Option, Some, [], ap, append-nil, append_assoc, arith, cond, drop, eq-eqb, eqb-true, false, get_or, inl, inr, is_some, length, length-append, map, max, nat_le, nat_lt, not, refl, subst, suc, sym, take, true, unwrap_or, zero, ℕ, ◌&&◌, ◌++◌, ◌+◌, ◌-◌, ◌<◌, ◌==◌, ◌||◌, ◌∙◌, ◌∷◌, ◌≡◌, ◌≢◌, ◌≤◌}
pub use Rattle.std.proofs.Math.Bool.{or-false, or-true}
pub use Rattle.std.proofs.lemmas.Bool.{and_from, and_parts, cases_eq, false_from_ne_true, lt-ltb, ltb-true, not-false, not-true, or_parts, true≢false}
pub use Rattle.std.proofs.lemmas.Bool.Decides.{nat_tests}
pub use Rattle.std.proofs.lemmas.List.{length-map, map-append, take-append-drop, take_all}
pub use Rattle.std.proofs.lemmas.List.Elements.{filter-append}
pub use Rattle.std.proofs.lemmas.List.Folds.{find-append, list_any-append}
pub use Rattle.std.proofs.lemmas.List.FromFn.{length-map-range_with_len, length-range_with_len}
pub use Rattle.std.proofs.lemmas.Option.{same_Some, slice_get-get_or, slice_get-map, slice_get_within}
pub use Rattle.std.proofs.lemmas.Slice.Eq.{bytes_eq-Decides}
pub use Rattle.std.specs.List.{AllByRecursion, list_any, range_with_len}
pub use Rattle.std.specs.Option.{option_map, option_map_or, option_or}
pub use Rattle.std.specs.Prelude.{codes, count_by, filter, find, flat_map, if◌then◌else◌, position, slice_get, sum_by}
pub use Rattle.std.specs.Str.{bytes_eq}
pub use Rattle.tx_join.specs.Differences.{circuits_lines, count_of_entries, each_written, entry_lines, has_other_circuits, has_range, is_known, is_range}
pub use Rattle.tx_join.specs.Joined.{bar_in, bars_from, bars_of_code, bars_over, circuits_named, code_in, exchange_in, group_in, has_both, joined_code, joined_group, joined_network, joined_new, joined_old, plan_over, route_in, routes_over, shared_bars, widened}
pub use Rattle.tx_join.specs.Laws.{AreOverBoth, CanBeJoined, HasNetwork, HaveTheirLists}
pub use Rattle.tx_join.specs.ListCounts.{changed_at, is_changed}
pub use Rattle.tx_join.specs.Refusals.{has_other_group, has_other_home, has_too_many, is_same_direction, is_same_exchange, is_same_group, join_refusal, refused_if}
pub use Rattle.tx_join.specs.declared.refusal.JoinRefusal.TheVariants.{NoMemory, OtherGroup, OtherHome, TooMany}
pub use Rattle.tx_join.specs.inner.Declared.{KnowsCodes, KnowsExchanges, KnowsGroups, known_code, known_group, known_range, with_codes, with_exchanges, with_groups, with_ranges}
pub use Rattle.tx_join.specs.inner.Ranges.{is_range_of}
pub use Rattle.tx_join.specs.inner.Taken.{BarsDiffer, RoutesDiffer, has_bar, taken_bars, taken_routes, takes}
pub use Rattle.tx_plan.proofs.ByIndex.{all_at, entry_at, take_next}
pub use Rattle.tx_plan.proofs.Copied.{no_none, route_got}
pub use Rattle.tx_plan.proofs.Filtered.{all_joined, all_kept, all_pass, any_in, pairs_joined, pairs_kept}
pub use Rattle.tx_plan.proofs.Growing.{code_within}
pub use Rattle.tx_plan.proofs.Lists.{all_map, all_mapped, all_with, longer_by, no_index, none_passes, placed, slice_get_left}
pub use Rattle.tx_plan.proofs.NamesBack.{code_back, exchange_back, group_back}
pub use Rattle.tx_plan.proofs.Tables.{list_any-map}
pub use Rattle.tx_plan.specs.Circuits.{count_of, direction_of, ends_of, may_seize}
pub use Rattle.tx_plan.specs.Declaring.{code_refusals, exchange_refusals, first_true, group_refusals, has_code, has_exchange, has_group, lines_refusals, with_code, with_exchange, with_group, with_lines}
pub use Rattle.tx_plan.specs.Mixed.{rerouted}
pub use Rattle.tx_plan.specs.Plan.{Code, Group, Plan, Route, code_named, exchange_name, exchange_named, figures_of, group_name, group_named, home_of}
pub use Rattle.tx_plan.specs.Routes.{is_barred, route_list}
pub use Rattle.tx_plan.specs.Rules.{EachPair, IsBar, IsCode, IsGroup, IsPlan, IsRange, IsRoute}
pub use Rattle.tx_plan.specs.declared.ids.Direction.{Direction}
pub use Rattle.tx_plan.specs.declared.ids.Direction.TheVariants.{BothWay, OneWay}
pub use Rattle.tx_plan.specs.declared.ids.Pair.{Pair}
pub use Rattle.tx_plan.specs.declared.range.LineRange.{LineRange}
pub use Rattle.tx_plantext.specs.PlanWritten.{bar_words, route_words}
pub use Rattle.tx_text.proofs.Exits.{exits_with}
pub use Rattle.tx_text.proofs.Putting.{puts_is, puts_none, puts_then}
pub use Rattle.tx_text.specs.Puts.{Puts}
pub use Rattle.tx_text.specs.Words.{is_name}
pub use Rattle.tx_text.specs.Written.{line_written}
