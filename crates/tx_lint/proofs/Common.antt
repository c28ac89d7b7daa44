-- The names that most proofs here cite, passed on from one place. Declares nothing.
pub use Rattle.std.proofs.Common.{Bool, List, None, Ok, Option, Some, [], ap, append-nil, arith, false, filter, fold, get_or, length, map, refl, rules, subst, suc, sym, take, tests, true, zero, ℕ, ◌++◌, ◌+◌, ◌<◌, ◌==◌, ◌∙◌, ◌∷◌, ◌≡◌, ◌≤◌}
pub use Rattle.std.proofs.lemmas.Bool.{eqb-true}
pub use Rattle.std.proofs.lemmas.Iterator.Consumers.{YieldsList-from_first}
pub use Rattle.std.proofs.lemmas.Iterator.Search.{find_from_yields_List}
pub use Rattle.std.proofs.lemmas.List.{append_assoc, get_or_default, map-append, take_all}
pub use Rattle.std.proofs.lemmas.List.Folds.{list_any_more}
pub use Rattle.std.proofs.lemmas.Option.{get_or_from_slice_get, slice_get-get_or}
pub use Rattle.std.proofs.lemmas.Result.{IfOk-weaker}
pub use Rattle.std.specs.List.{AllByRecursion, flat_map, list_any, range_with_len}
pub use Rattle.std.specs.Option.{option_map, option_map_or, option_to_list}
pub use Rattle.std.specs.Prelude.{if◌then◌else◌, not, slice_get, ◌||◌}
pub use Rattle.tx_lint.specs.AllFaults.{Fault, Progress, faults_of, progress_of}
pub use Rattle.tx_lint.specs.Escaped.{escaped_byte}
pub use Rattle.tx_lint.specs.Gathered.{Gathering, gathered_on, no_gathering, told_of}
pub use Rattle.tx_lint.specs.LintText.{fault_line, warning_line}
pub use Rattle.tx_lint.specs.Lints.{fault_held, told_held}
pub use Rattle.tx_lint.specs.Warnings.{is_idle, is_mute, warned_if, warned_once}
pub use Rattle.tx_lint.specs.declared.entry.Entry.{Entry}
pub use Rattle.tx_lint.specs.declared.gathering.Told.{Told}
pub use Rattle.tx_lint.specs.declared.warning.Warning.{Warning}
pub use Rattle.tx_lint.specs.declared.warning.Warning.TheVariants.{NoLines, SharedRisk, UnusedList}
pub use Rattle.tx_lint.specs.inner.Gatherings.{AreFew, gathering_held}
pub use Rattle.tx_lint.specs.inner.Marks.{coming_of}
pub use Rattle.tx_lint.specs.inner.Readings.{faults_held, progress_held}
pub use Rattle.tx_plan.proofs.ByIndex.{entry_at}
pub use Rattle.tx_plan.proofs.Copied.{no_none}
pub use Rattle.tx_plan.proofs.ListFound.{list_found}
pub use Rattle.tx_plan.specs.Plan.{Plan, Route}
pub use Rattle.tx_plan.specs.Routes.{route_list}
pub use Rattle.tx_plan.specs.Rules.{IsPlan}
pub use Rattle.tx_plan.specs.declared.range.LineRange.{LineRange}
pub use Rattle.tx_rank.specs.Reached.{is_marked}
pub use Rattle.tx_risk.specs.NamedRisks.{NamedRisk}
pub use Rattle.tx_text.proofs.Putting.{puts_is, puts_then, puts_wrote}
pub use Rattle.tx_text.proofs.Writing.{some, some_first, some_last}
pub use Rattle.tx_text.proofs.Wrote.{texts_done, texts_more, texts_stopped, wrote_none}
pub use Rattle.tx_text.specs.Wrote.{WroteBy}
