-- The names that most proofs here cite, passed on from one place. Declares nothing.
pub use Rattle.arrayvec.specs.ArrayVec.{ArrayVec}
pub use Rattle.std.proofs.Common.{Bool, List, None, Option, Some, [], ap, append-nil, append_assoc, arith, cond, drop, eq-eqb, eqb, eqb-true, false, get_or, inl, inr, length, length-append, map, nat_lt, not, refl, subst, suc, sym, take, true, zero, ℕ, ◌&&◌, ◌++◌, ◌+◌, ◌-◌, ◌<◌, ◌==◌, ◌||◌, ◌∙◌, ◌∷◌, ◌≡◌, ◌≢◌, ◌≤◌, ◌⊎◌}
pub use Rattle.std.proofs.lemmas.Bool.{and_from, and_parts, cases_lt, eqb-false, false≢true, lt-ltb, ltb-true, not-true, or_cases, or_left, or_right}
pub use Rattle.std.proofs.lemmas.List.{map-append, nil_from_length}
pub use Rattle.std.proofs.lemmas.List.Concat.{flat_map-append}
pub use Rattle.std.proofs.lemmas.List.Elements.{filter-append}
pub use Rattle.std.proofs.lemmas.List.FromFn.{length-map-range_with_len}
pub use Rattle.std.proofs.lemmas.Result.{IfOk-weaker}
pub use Rattle.std.specs.List.{AllByRecursion, flat_map, fold, list_all, list_any, range_with_len}
pub use Rattle.std.specs.Option.{option_copied, option_map_or}
pub use Rattle.std.specs.Prelude.{OnOk, filter, find, if◌then◌else◌, is_none, is_some, option_and_then, slice_get}
pub use Rattle.tx_cert.specs.Certificate.{IsCertificateOf, ranks_of}
pub use Rattle.tx_mend.specs.KeptRanks.{can_follow_keeping, choice_at, choices, has_rank, kept_rank, leads_below, list_with, put_back, rank_keeping, stays_by}
pub use Rattle.tx_mend.specs.Laws.{ChangesLeast, ComesFirst}
pub use Rattle.tx_mend.specs.LeastRanks.{RanksOfCode, can_follow, does_follow, indexes, keeps_routes, kept_or, leads_on, least_rank, outgoing, present_rank, rank_across, ranked_in, ranks_origins}
pub use Rattle.tx_mend.specs.Lists.{comes_in, comes_to, full_list, groups_below, leads_to, list_by, list_of_rank, mended_list}
pub use Rattle.tx_mend.specs.MendText.{code_line, missing_for_code, unserved_line}
pub use Rattle.tx_mend.specs.Mended.{all_pairs, mended, mended_routes, pairs_of, route_if, routes_of}
pub use Rattle.tx_mend.specs.Routings.{CanBeKept, CanBeMended, CanBeServed, IsFalling, IsRouting}
pub use Rattle.tx_mend.specs.Unserved.{cause_of, groups_near, groups_on, lacking_at, lacks_groups, missing_for, unlimited_rank, unserved, unserved_for}
pub use Rattle.tx_mend.specs.declared.cause.Cause.TheVariants.{Groups, Rank}
pub use Rattle.tx_mend.specs.declared.cause.Missing.{Missing}
pub use Rattle.tx_mend.specs.declared.cause.Unserved.{Unserved}
pub use Rattle.tx_mend.specs.inner.CodeRanks.{code_ranks, kept_ranks, rank_list, ranked}
pub use Rattle.tx_mend.specs.inner.Full.{full, settled_list, settled_route}
pub use Rattle.tx_mend.specs.inner.Pairs.{absent_below, full_route, is_absent, pairs_for, present_pairs, routes_below}
pub use Rattle.tx_plan.proofs.Among.{all_among, among_all, among_cases, among_filter, among_flat, among_left, among_map, among_right, filter_among, flat_among, map_among}
pub use Rattle.tx_plan.proofs.ByIndex.{entry_at}
pub use Rattle.tx_plan.proofs.Copied.{no_none, pair_of}
pub use Rattle.tx_plan.proofs.Ends.{end_within}
pub use Rattle.tx_plan.proofs.Filtered.{pairs_kept}
pub use Rattle.tx_plan.proofs.ListFound.{list_cases, list_few, list_seizes, listed_within}
pub use Rattle.tx_plan.proofs.Longest.{none_is}
pub use Rattle.tx_plan.specs.Ambiguous.{ambiguous_of}
pub use Rattle.tx_plan.specs.Among.{Among}
pub use Rattle.tx_plan.specs.Certified.{IsCertified, LeadsLower, Ranks}
pub use Rattle.tx_plan.specs.Circuits.{may_seize, other_end}
pub use Rattle.tx_plan.specs.Declaring.{has_route}
pub use Rattle.tx_plan.specs.Mixed.{rerouted}
pub use Rattle.tx_plan.specs.Plan.{Plan, Route, home_of}
pub use Rattle.tx_plan.specs.Routes.{is_origin_for, route_list}
pub use Rattle.tx_plan.specs.Rules.{EachPair, IsPlan, IsRoute}
pub use Rattle.tx_rank.proofs.Certifying.{below_rank}
pub use Rattle.tx_rank.proofs.Looks.{among_at}
pub use Rattle.tx_rank.proofs.Nets.{is_net}
pub use Rattle.tx_rank.specs.Grades.{CanBeCertified}
pub use Rattle.tx_rank.specs.Heights.{IsReached}
pub use Rattle.tx_rank.specs.Nets.{Certifies}
pub use Rattle.tx_rank.specs.Walks.{AllDiffer, Net, net_of}
pub use Rattle.tx_text.proofs.Putting.{puts_is, puts_none, puts_then}
pub use Rattle.tx_text.specs.Puts.{Puts}
pub use mir.Val.{bool_byte}
