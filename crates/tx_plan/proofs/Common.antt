-- The names that most proofs here cite, passed on from one place. Declares nothing.
pub use Rattle.arrayvec.specs.ArrayVec.{ArrayVec}
pub use Rattle.indexmap.specs.IndexMap.{IndexMap, insert_entry}
pub use Rattle.std.proofs.Common.{Bool, Err, List, None, Ok, Option, Result, Some, [], ap, ap₂, arith, cond, drop, eq-eqb, eqb-true, false, get_or, inl, inr, is_some, length, map, nat_le, nat_lt, not, refl, rules, subst, suc, sym, take, true, unwrap_or, zero, ℕ, ◌%◌, ◌&&◌, ◌*◌, ◌++◌, ◌+◌, ◌-◌, ◌/◌, ◌<◌, ◌==◌, ◌^◌, ◌||◌, ◌∙◌, ◌∷◌, ◌≡◌, ◌≢◌, ◌≤◌, ◌⊎◌}
pub use Rattle.std.proofs.lemmas.Bool.{and_left, and_parts, and_right, cases_eq, false_from_ne_true, false≢true, le-leb, lt-leb, ne_eqb, not-true, true≢false}
pub use Rattle.std.proofs.lemmas.Bool.Decides.{nat_tests, same_from_decides}
pub use Rattle.std.proofs.lemmas.Cmp.{on_total, then_total}
pub use Rattle.std.proofs.lemmas.List.{length-map, map_push}
pub use Rattle.std.proofs.lemmas.List.Quantifiers.{position-Some}
pub use Rattle.std.proofs.lemmas.Map.Lookups.{exact_bytes, exact_pairs}
pub use Rattle.std.proofs.lemmas.Map.Made.{is_some-lookup}
pub use Rattle.std.proofs.lemmas.Option.{slice_get_within}
pub use Rattle.std.proofs.lemmas.Slice.Eq.{bytes_eq-Decides}
pub use Rattle.std.specs.Cmp.{IsTotalOrder}
pub use Rattle.std.specs.Cmp.Lexicographic.{nat_list_cmp_total, slice_cmp}
pub use Rattle.std.specs.List.{AllByRecursion, enumerate_from, list_any, position_or_len}
pub use Rattle.std.specs.Map.{keys_of}
pub use Rattle.std.specs.Option.{option_map, option_map_or}
pub use Rattle.std.specs.Prelude.{bit_xor, filter, find, if◌then◌else◌, position, slice_get}
pub use Rattle.std.specs.Str.{bytes_eq}
pub use Rattle.std.specs.declared.cmp.Ordering.{Ordering}
pub use Rattle.std.specs.declared.cmp.Ordering.TheVariants.{Equal, Greater, Less}
pub use Rattle.tx_plan.specs.Ambiguous.{ambiguous_of, pair_cmp}
pub use Rattle.tx_plan.specs.Among.{Among}
pub use Rattle.tx_plan.specs.Circuits.{may_seize, other_end}
pub use Rattle.tx_plan.specs.Codes.{after, is_prefix}
pub use Rattle.tx_plan.specs.Declaring.{bar_refusals, code_at, code_refusals, exchange_at, exchange_refusals, first_true, group_at, group_refusals, has_code, has_exchange, has_group, has_route, is_not_outgoing, lines_refusals, none_twice, overlaps, route_refusals, with_bar, with_code, with_exchange, with_group, with_lines, with_route}
pub use Rattle.tx_plan.specs.Mixed.{rerouted}
pub use Rattle.tx_plan.specs.Mixtures.{SameNetwork}
pub use Rattle.tx_plan.specs.Plan.{Code, Group, Plan, Route, code_named, exchange_named, figures_of, group_name, group_named, home_of}
pub use Rattle.tx_plan.specs.Routes.{is_barred, route_list}
pub use Rattle.tx_plan.specs.Rules.{EachPair, IsBar, IsCode, IsGroup, IsPlan, IsRange, IsRoute, is_code, is_national}
pub use Rattle.tx_plan.specs.declared.ids.Direction.{Direction}
pub use Rattle.tx_plan.specs.declared.ids.Direction.TheVariants.{OneWay}
pub use Rattle.tx_plan.specs.declared.ids.GroupRow.{GroupRow}
pub use Rattle.tx_plan.specs.declared.ids.Line.{Line}
pub use Rattle.tx_plan.specs.declared.ids.Pair.{Pair}
pub use Rattle.tx_plan.specs.declared.range.LineRange.{LineRange}
pub use Rattle.tx_plan.specs.declared.refusal.PlanRefusal.{PlanRefusal}
pub use Rattle.tx_plan.specs.inner.AmbiguousAt.{IsAmbiguousAt, pair_at}
pub use Rattle.tx_plan.specs.inner.Tables.{code_of_row, group_of_row, plan_of, route_of_row, row_of}
pub use Rattle.tx_text.specs.Words.{is_figure, is_name}
