-- The names that most proofs here cite, passed on from one place. Declares nothing.
pub use Rattle.std.proofs.Common.{ap, take, ◌∙◌}
pub use Rattle.std.specs.List.{flat_map}
pub use Rattle.tx_html.proofs.Showing.{sets_end, sets_then}
pub use Rattle.tx_html.specs.Shows.{Sets}
pub use Rattle.tx_page.specs.CodeTexts.{code_texts}
pub use Rattle.tx_page.specs.NetworkTexts.{exchange_texts, group_texts, home_texts}
pub use Rattle.tx_page.specs.OutageTexts.{cut_texts, shown_texts}
pub use Rattle.tx_page.specs.WrongTexts.{finding_texts}
pub use Rattle.tx_svg.specs.Indexed.{texts_below}
