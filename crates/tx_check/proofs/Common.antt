-- The names that most proofs here cite, passed on from one place. Declares nothing.
pub use Rattle.std.proofs.Common.{Bool, List, None, Option, Some, [], ap, arith, false, get_or, is_none, is_some, length, nat_le, nat_lt, refl, rules, subst, sym, true, ℕ, ◌++◌, ◌<◌, ◌∙◌, ◌∷◌, ◌≡◌}
pub use Rattle.std.proofs.lemmas.Bool.{ltb-true}
pub use Rattle.std.specs.List.{flat_map, range_with_len}
pub use Rattle.std.specs.Option.{option_map, option_or}
pub use Rattle.std.specs.Prelude.{find, if◌then◌else◌}
pub use Rattle.tx_cert.specs.Certificate.{Certificate, rank_at}
pub use Rattle.tx_check.specs.Checks.{at_exchanges, fault_if, foremost, home_not_zero_at, is_at_least, not_lower_at, origin_unranked_at, rank_away, rank_beyond, ranks_for, target_unranked_at, too_high_at, too_short_at}
pub use Rattle.tx_check.specs.declared.fault.CheckFault.{CheckFault}
pub use Rattle.tx_check.specs.declared.fault.CheckFault.TheVariants.{NotLower, Short, TargetUnranked}
pub use Rattle.tx_check.specs.inner.Firsts.{firsts_of}
pub use Rattle.tx_plan.specs.Ambiguous.{ambiguous_of}
pub use Rattle.tx_plan.specs.Certified.{IsCertified, Ranks}
pub use Rattle.tx_plan.specs.Plan.{Plan}
pub use Rattle.tx_plan.specs.Routes.{is_origin, route_list}
pub use Rattle.tx_plan.specs.Rules.{IsPlan}
