-- The names that most proofs here cite, passed on from one place. Declares nothing.
pub use Rattle.std.proofs.Common.{Bool, IfOk, List, None, Option, Some, [], ap, arith, cond, eqb-true, false, inl, inr, length, map, nat_le, nat_lt, not, refl, subst, suc, sym, true, zero, ℕ, ◌&&◌, ◌*◌, ◌++◌, ◌+◌, ◌-◌, ◌<◌, ◌==◌, ◌||◌, ◌∙◌, ◌∷◌, ◌≡◌, ◌≢◌, ◌≤◌}
pub use Rattle.std.proofs.lemmas.Bool.{and_parts, cases_eq, cases_lt, lt-ltb, ltb-false, ltb-true, not-true, true≢false}
pub use Rattle.std.proofs.lemmas.Slice.Eq.{bytes_eq-Decides}
pub use Rattle.std.specs.List.{AllByRecursion, flat_map, range_with_len}
pub use Rattle.std.specs.Option.{option_map_or}
pub use Rattle.std.specs.Prelude.{slice_get}
pub use Rattle.std.specs.Str.{bytes_eq}
pub use Rattle.tx_audit.specs.Audits.{IsRightRanking}
pub use Rattle.tx_cert.specs.Certificate.{Certificate, IsCertificateOf, no_ranks_for, rank_at, ranks_of}
pub use Rattle.tx_change.proofs.JoinedNets.{AreJoinedBelow}
pub use Rattle.tx_change.specs.ChangeNets.{change_net}
pub use Rattle.tx_change.specs.declared.mixing.Lists.{Lists}
pub use Rattle.tx_change.specs.inner.Joined.{AreJoined, Joined}
pub use Rattle.tx_check.specs.Confirmed.{IsConfirmed}
pub use Rattle.tx_machine.specs.Call.{is_connected}
pub use Rattle.tx_machine.specs.ChangingRuns.{changing_run}
pub use Rattle.tx_machine.specs.State.{opening}
pub use Rattle.tx_order.specs.Fronts.{front_of}
pub use Rattle.tx_order.specs.Joined.{AreAllStages, AreStages, IsFurthest, IsSafeBetween}
pub use Rattle.tx_order.specs.Levels.{bar_level, is_bar_switched, is_switched, level_at, level_of, levels_of}
pub use Rattle.tx_order.specs.OrderText.{entry_lines, exchange_lines, stage_text}
pub use Rattle.tx_order.specs.Ordered.{AreStagesBelow, IsOrderKept, Order, fronts_before, plan_before, stages_in}
pub use Rattle.tx_order.specs.Orders.{AreAlike, AreAlikeFor, CanBothBeCertified, IsOrder}
pub use Rattle.tx_order.specs.Stages.{AreBothCertified, plan_at, plan_of, ranks_at, ranks_by}
pub use Rattle.tx_order.specs.Switchings.{HasCleared, IsOrdered}
pub use Rattle.tx_order.specs.Transitions.{IsTransition, Transition, has_bar, has_list, plan_front, plan_with}
pub use Rattle.tx_order.specs.inner.Asked.{AreListsOf, plan_stopped}
pub use Rattle.tx_order.specs.inner.Certified.{IsCertifiedBelow}
pub use Rattle.tx_plan.proofs.Lists.{all_map}
pub use Rattle.tx_plan.proofs.Networks.{rerouted-is, same_along, same_back}
pub use Rattle.tx_plan.specs.Among.{Among}
pub use Rattle.tx_plan.specs.Certified.{IsBelow, IsCertified, Ranks}
pub use Rattle.tx_plan.specs.Mixed.{rerouted}
pub use Rattle.tx_plan.specs.Mixtures.{AreCommon, IsMixture, SameNetwork}
pub use Rattle.tx_plan.specs.Plan.{Plan, Route, home_of}
pub use Rattle.tx_plan.specs.Routes.{is_barred, is_origin, is_origin_for, route_list}
pub use Rattle.tx_plan.specs.Rules.{IsBar, IsPlan}
pub use Rattle.tx_plan.specs.declared.ids.Pair.{Pair}
pub use Rattle.tx_rank.specs.Grades.{CanBeCertified}
pub use Rattle.tx_rank.specs.Judged.{AreOrigins, IsJudged}
pub use Rattle.tx_rank.specs.Nets.{Certifies}
pub use Rattle.tx_rank.specs.Walks.{Net}
pub use Rattle.tx_rank.specs.declared.finding.Finding.{Finding}
pub use Rattle.tx_rank.specs.declared.ranking.Ranking.{Ranking}
pub use Rattle.tx_rank.specs.declared.ranking.Ranking.TheVariants.{Fails, Found}
pub use Rattle.tx_text.proofs.Putting.{puts_is, puts_then}
pub use Rattle.tx_text.specs.Puts.{Puts}
