-- The names that most proofs here cite, passed on from one place. Declares nothing.
pub use Rattle.std.proofs.Common.{List, ap, arith, drop, length, map, subst, sym, take, ◌<◌, ◌∙◌, ◌≡◌, ◌≤◌}
pub use Rattle.std.proofs.lemmas.List.{length-replicate, take_min}
pub use Rattle.std.proofs.lemmas.Option.{same_Some}
pub use Rattle.std.specs.List.{flat_map}
pub use Rattle.std.specs.Option.{option_map}
pub use Rattle.tx_plan.proofs.FirstPair.{IsLookUp}
pub use Rattle.tx_plan.proofs.Spelled.{IsSpelled, spelled, three, two}
pub use Rattle.tx_plan.specs.Codes.{code_of}
pub use Rattle.tx_plan.specs.Plan.{Code, Plan, figures_of, home_of}
pub use Rattle.tx_plan.specs.Rules.{is_code}
pub use Rattle.tx_plan.specs.inner.Tables.{code_of_row}
pub use Rattle.tx_text.specs.Puts.{Puts}
pub use Rattle.tx_trie.specs.CodesText.{code_line}
pub use Rattle.tx_trie.specs.Trie.{plan_of}
pub use Rattle.tx_trie.specs.inner.Nodes.{AreFirst, IsTrie, look, node_after, node_of}
