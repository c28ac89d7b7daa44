-- The names that most proofs here cite, passed on from one place. Declares nothing.
pub use Rattle.std.proofs.Common.{ap, arith, length, sym, take, ◌*◌, ◌∙◌, ◌≡◌, ◌≤◌}
pub use Rattle.std.proofs.lemmas.List.{take_all}
pub use Rattle.std.specs.List.{range_with_len}
pub use Rattle.std.specs.Prelude.{count_by, if◌then◌else◌, sum_by}
pub use Rattle.tx_html.proofs.Showing.{sets_end, sets_is, sets_then}
pub use Rattle.tx_html.specs.Shows.{Sets}
pub use Rattle.tx_page_change.specs.ChangeTexts.{pair_texts, stage_texts}
pub use Rattle.tx_page_change.specs.Counts.{code_lines, range_lines}
pub use Rattle.tx_page_change.specs.StepTexts.{group_circuits_texts, if_alone_texts}
pub use Rattle.tx_page_change.specs.inner.Between.{after_of, before_of}
pub use Rattle.tx_plan.specs.Routes.{is_barred, is_origin, route_list}
pub use Rattle.tx_svg.specs.Indexed.{texts_below}
