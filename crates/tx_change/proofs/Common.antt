-- The names that most proofs here cite, passed on from one place. Declares nothing.
pub use Rattle.std.proofs.Common.{Bool, IfOk, List, None, Option, Some, [], ap, arith, cond, eq-eqb, eqb-true, false, inl, inr, length, min, not, refl, subst, suc, sym, take, true, zero, ℕ, ◌&&◌, ◌++◌, ◌+◌, ◌<◌, ◌==◌, ◌||◌, ◌∙◌, ◌∷◌, ◌≡◌, ◌≢◌, ◌≤◌}
pub use Rattle.std.proofs.lemmas.Bool.{and_parts, eqb-false, or_cases, true≢false}
pub use Rattle.std.specs.List.{AllByRecursion, list_any}
pub use Rattle.std.specs.Option.{option_map, option_map_or}
pub use Rattle.std.specs.Prelude.{filter, slice_get}
pub use Rattle.tx_cert.specs.Certificate.{rank_at, ranks_of}
pub use Rattle.tx_change.specs.ChangeFindings.{AreChangeFindings}
pub use Rattle.tx_change.specs.ChangeNets.{IsTrueOfChange, change_net}
pub use Rattle.tx_change.specs.ChangeReport.{finding_after}
pub use Rattle.tx_change.specs.Shown.{IsShown, shown_by}
pub use Rattle.tx_change.specs.inner.Changed.{IsChangedBelow}
pub use Rattle.tx_change.specs.inner.Joined.{AreJoined, Joined}
pub use Rattle.tx_change.specs.inner.Kept.{has_bar_as, has_route_as, keeps, keeps_bar, keeps_route}
pub use Rattle.tx_machine.proofs.ChangingRuns.{sound_change}
pub use Rattle.tx_machine.proofs.Lists.{any_mem, find_mem}
pub use Rattle.tx_machine.specs.declared.event.Event.{Event}
pub use Rattle.tx_plan.proofs.Among.{all_among, among_cases}
pub use Rattle.tx_plan.proofs.CommonRanks.{mixture_certified}
pub use Rattle.tx_plan.proofs.Networks.{ends_same, homes_same, origins_same}
pub use Rattle.tx_plan.specs.Among.{Among}
pub use Rattle.tx_plan.specs.Certified.{Ranks}
pub use Rattle.tx_plan.specs.Mixtures.{AreCommon, EachMixture, IsMixture, SameNetwork}
pub use Rattle.tx_plan.specs.Plan.{Plan, Route, home_of}
pub use Rattle.tx_plan.specs.declared.ids.Pair.{Pair}
pub use Rattle.tx_plan.specs.Routes.{is_barred, is_origin, is_origin_for, route_list}
pub use Rattle.tx_plan.specs.Rules.{IsPlan}
pub use Rattle.tx_rank.proofs.Certifying.{none_true}
pub use Rattle.tx_rank.proofs.Looks.{among_at}
pub use Rattle.tx_rank.specs.Findings.{IsTrueOf}
pub use Rattle.tx_rank.specs.Grades.{CanBeCertified}
pub use Rattle.tx_rank.specs.Judged.{IsJudged}
pub use Rattle.tx_rank.specs.Nets.{Certifies, IsNet}
pub use Rattle.tx_rank.specs.Walks.{net_of}
pub use Rattle.tx_rank.specs.declared.finding.Finding.{Finding}
pub use Rattle.tx_rank.specs.declared.finding.Finding.TheVariants.{Short}
