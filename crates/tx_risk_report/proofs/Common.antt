-- The names that most proofs here cite, passed on from one place. Declares nothing.
pub use Rattle.std.proofs.Common.{List, [], ap, append-nil, append_assoc, arith, false, if◌then◌else◌, length, refl, suc, sym, take, true, ℕ, ◌++◌, ◌+◌, ◌-◌, ◌∙◌, ◌∷◌, ◌≡◌}
pub use Rattle.std.proofs.lemmas.Bool.{ne_eqb}
pub use Rattle.std.specs.List.{flat_map, range_with_len}
pub use Rattle.tx_risk_report.specs.Comparison.{compared_block, compared_total}
pub use Rattle.tx_risk_report.specs.OutageReport.{block_text, cuts_at, total_text}
pub use Rattle.tx_text.proofs.Putting.{puts_is, puts_none, puts_then, puts_wrote}
pub use Rattle.tx_text.proofs.Writing.{some}
pub use Rattle.tx_text.specs.Puts.{Puts}
