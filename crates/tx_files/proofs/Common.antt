-- The names that most proofs here cite, passed on from one place. Declares nothing.
pub use Rattle.std.proofs.Common.{Bool, Err, List, None, Ok, Option, Some, [], ap, arith, cond, drop, false, get_or, inl, inr, length, lit<, refl, rules, subst, sym, tests, true, ℕ, ◌++◌, ◌+◌, ◌<◌, ◌∙◌, ◌∷◌, ◌≡◌}
pub use Rattle.std.proofs.lemmas.Iterator.Splits.{YieldsList-from_str_split}
pub use Rattle.std.proofs.lemmas.List.{at_drop_more, length_push}
pub use Rattle.std.specs.List.{find, range_with_len}
pub use Rattle.std.specs.Str.{bytes_eq}
pub use Rattle.tx_files.specs.Faults.{memory_stop, plan_stop, text_stop}
pub use Rattle.tx_files.specs.Left.{is_down}
pub use Rattle.tx_files.specs.Missing.{is_within, names_of}
pub use Rattle.tx_files.specs.Names.{names_in}
pub use Rattle.tx_files.specs.declared.fault.CommandFault.{CommandFault}
pub use Rattle.tx_files.specs.declared.two_plans.PlanText.{PlanText}
pub use Rattle.tx_join.specs.Refusals.{join_refusal}
pub use Rattle.tx_order.specs.Stopped.{target_of}
pub use Rattle.tx_plan.specs.Plan.{Plan}
pub use Rattle.tx_plan.specs.Rules.{IsPlan}
pub use Rattle.tx_risk.specs.NamedRisks.{AreRisksFor, NamedRisk}
pub use Rattle.tx_text.proofs.Exits.{exits_with}
pub use Rattle.tx_text.proofs.Putting.{puts_then, puts_wrote}
pub use Rattle.tx_text.proofs.Writing.{some}
pub use Rattle.tx_text.specs.Ends.{Input, input}
