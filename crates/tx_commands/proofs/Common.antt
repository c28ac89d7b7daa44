-- The names that most proofs here cite, passed on from one place. Declares nothing.
pub use Rattle.clap.specs.Words.{rule_of, subcommand_rows_of, with_rule}
pub use Rattle.std.proofs.Common.{List, None, Ok, Option, Some, [], ap, bytes_eq, codes, drop, map, option_map, refl, rules, subst, sym, take, true, ℕ, ◌++◌, ◌||◌, ◌∙◌, ◌∷◌, ◌≡◌}
pub use Rattle.std.proofs.lemmas.List.{get_or_default}
pub use Rattle.std.specs.Borrow.{Bor}
pub use Rattle.std.specs.List.{flat_map, join_by, list_any}
pub use Rattle.tx_commands.specs.Clashes.{has_clash, is_among}
pub use Rattle.tx_commands.specs.Commands.{IsFoundIn}
pub use Rattle.tx_commands.specs.Entries.{texts}
pub use Rattle.tx_commands.specs.Explanation.{told_text}
pub use Rattle.tx_commands.specs.Files.{names, values_of}
pub use Rattle.tx_commands.specs.SameFile.{is_same_file}
pub use Rattle.tx_commands.specs.inner.Refused.{IsRefused}
pub use Rattle.tx_commands.specs.inner.Takes.{Takes}
pub use Rattle.tx_text.proofs.Putting.{puts_wrote}
pub use Rattle.tx_text.proofs.Writing.{some, some_last}
pub use Rattle.tx_text.proofs.Wrote.{texts_stopped}
pub use Rattle.tx_text.specs.Wrote.{WroteBy}
