-- The names that most proofs here cite, passed on from one place. Declares nothing.
pub use Rattle.indexmap.specs.IndexMap.{spare}
pub use Rattle.std.proofs.Common.{Bool, List, [], ap, arith, cond, false, get_or, length, length-append, nat_lt, refl, rules, subst, sym, take, true, unwrap_or, vec_capacity, ℕ, ◌&&◌, ◌++◌, ◌+◌, ◌-◌, ◌<◌, ◌==◌, ◌∙◌, ◌∷◌, ◌≡◌, ◌≤◌}
pub use Rattle.std.proofs.lemmas.Bool.{and_parts, false≢true}
pub use Rattle.std.proofs.lemmas.Bool.Decides.{nat_tests}
pub use Rattle.std.proofs.lemmas.List.Sorted.{IsPartitionPoint-from_clause, ranks_by}
pub use Rattle.std.proofs.lemmas.Option.{get_or_from_slice_get}
pub use Rattle.std.specs.List.{list_any}
pub use Rattle.std.specs.List.Sorted.{IsPartitionPoint, IsPartitionedBy}
pub use Rattle.std.specs.Ordering.{is_le, is_lt, nat_cmp, ordering_then}
pub use Rattle.std.specs.Prelude.{IsPermutation, if◌then◌else◌, is_some, slice_get}
pub use Rattle.std.specs.declared.cmp.Ordering.{Ordering}
pub use Rattle.std.specs.declared.cmp.Ordering.TheVariants.{Equal, Greater, Less}
pub use Rattle.tx_lines.specs.Book.{Book, room_taken}
pub use Rattle.tx_lines.specs.Status.{is_unmarked, no_mark, with_mark}
pub use Rattle.tx_lines.specs.declared.book.Mark.TheVariants.{Away, Engaged, Faulty}
pub use Rattle.tx_lines.specs.declared.book.Status.{Status}
pub use Rattle.tx_lines.specs.inner.Kept.{kept_status, with_mark_of}
pub use Rattle.tx_lines.specs.inner.Ordered.{AreFirsts, IsFirst, IsInOrder, key_cmp, start_of}
pub use Rattle.tx_plan.specs.Lines.{at_most, in_range}
pub use Rattle.tx_plan.specs.Orders.{same_line}
pub use Rattle.tx_plan.specs.declared.ids.Line.{Line}
pub use Rattle.tx_plan.specs.declared.range.LineRange.{LineRange}
