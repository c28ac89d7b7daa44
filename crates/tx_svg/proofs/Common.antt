-- The names that most proofs here cite, passed on from one place. Declares nothing.
pub use Rattle.std.proofs.Common.{[], map, take, ◌≡◌}
pub use Rattle.std.specs.Prelude.{unwrap_or}
pub use Rattle.tx_cert.specs.Certificate.{ranks_of}
pub use Rattle.tx_html.proofs.Showing.{sets_is, sets_then}
pub use Rattle.tx_html.specs.Shows.{Sets}
pub use Rattle.tx_plan.specs.Plan.{group_name}
pub use Rattle.tx_svg.specs.Indexed.{texts_below}
pub use Rattle.tx_svg.specs.ListTexts.{box_texts, column_texts, greatest_rank, picture_texts, row_texts}
pub use Rattle.tx_svg.specs.RingTexts.{name_texts}
