-- The names that most proofs here cite, passed on from one place. Declares nothing.
pub use Rattle.std.proofs.Common.{List, ap, arith, false, length, map, not, refl, rules, sym, take, true, ℕ, ◌==◌, ◌∙◌, ◌≡◌, ◌≤◌}
pub use Rattle.std.specs.List.{cons_option, filter_map}
pub use Rattle.tx_down.specs.Without.{is_one_of, list_over, network_without, route_over}
pub use Rattle.tx_down.specs.inner.Stages.{its_codes, its_exchanges, its_ranges}
pub use Rattle.tx_join.proofs.Common.{Route, entry_at, list_any, slice_get}
pub use Rattle.tx_join.proofs.Found.{taken_last}
pub use Rattle.tx_plan.specs.Plan.{exchange_name, no_plan}
pub use Rattle.tx_text.proofs.Exits.{exits_with}
