-- The names that most proofs here cite, passed on from one place. Declares nothing.
pub use Rattle.std.proofs.Common.{Bool, List, None, Ok, Option, Result, Some, [], add-one, ap, append-nil, append_assoc, arith, codes, false, inl, inr, length, map, nat_lt, not, refl, subst, suc, sym, take, true, zero, ℕ, ◌&&◌, ◌++◌, ◌+◌, ◌<◌, ◌==◌, ◌∙◌, ◌∷◌, ◌≡◌, ◌≢◌, ◌≤◌}
pub use Rattle.std.proofs.lemmas.Bool.{and_parts, lt-ltb, or_from}
pub use Rattle.std.proofs.lemmas.List.{take_all}
pub use Rattle.std.proofs.lemmas.Slice.Eq.{bytes_eq-Decides}
pub use Rattle.std.specs.Fmt.{decimal}
pub use Rattle.std.specs.List.{AllByRecursion, flat_map, list_any, range_with_len}
pub use Rattle.std.specs.Option.{option_map, option_map_or}
pub use Rattle.std.specs.Prelude.{filter, slice_get}
pub use Rattle.std.specs.Str.{bytes_eq}
pub use Rattle.tx_plan.proofs.ByIndex.{bytes_apart, entry_at}
pub use Rattle.tx_plan.proofs.NamesBack.{code_back, exchange_back, exchange_is_name, figures_are_code}
pub use Rattle.tx_plan.specs.Declaring.{bar_refusals, code_refusals, first_true, group_refusals, route_refusals}
pub use Rattle.tx_plan.specs.Plan.{Code, Group, Plan, Route, exchange_name, figures_of, group_name, home_of}
pub use Rattle.tx_plan.specs.Routes.{is_barred, route_list}
pub use Rattle.tx_plan.specs.Rules.{EachPair, IsPlan}
pub use Rattle.tx_plan.specs.declared.ids.Direction.{Direction}
pub use Rattle.tx_plan.specs.declared.ids.Direction.TheVariants.{OneWay}
pub use Rattle.tx_plan.specs.declared.ids.Pair.{Pair}
pub use Rattle.tx_plan.specs.declared.refusal.PlanRefusal.{PlanRefusal}
pub use Rattle.tx_plantext.specs.ChangedLists.{change_line, code_changes}
pub use Rattle.tx_plantext.specs.PlanText.{unless}
pub use Rattle.tx_plantext.specs.PlanWritten.{bar_words, code_words, direction_word, exchange_words, group_words, lines_of_list, range_words, route_words}
pub use Rattle.tx_plantext.specs.Revised.{SameLinesStand, StandAmong, says_too}
pub use Rattle.tx_text.proofs.Putting.{puts_is, puts_then}
pub use Rattle.tx_text.proofs.WrittenWords.{IsShortWord, figures_word, fixed_word, line_of_short, name_word}
pub use Rattle.tx_text.specs.Puts.{Puts}
pub use Rattle.tx_text.specs.Words.{is_name}
pub use Rattle.tx_text.specs.inner.Written.{IsWrittenLine, LeadsTo}
