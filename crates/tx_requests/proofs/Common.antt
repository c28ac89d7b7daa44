-- The names that most proofs here cite, passed on from one place. Declares nothing.
pub use Rattle.std.proofs.Common.{Bool, Err, List, None, Ok, Option, Result, Some, Vec, [], ap, arith, codes, false, inl, inr, length, lit<, map, refl, rules, subst, sym, tests, true, ℕ, ◌∙◌, ◌∷◌, ◌≡◌, ◌≢◌}
pub use Rattle.std.proofs.lemmas.Bool.{false≢true}
pub use Rattle.std.proofs.lemmas.Iterator.{YieldsList-from_slice}
pub use Rattle.std.proofs.lemmas.Iterator.Search.{any_from_yields_List}
pub use Rattle.std.proofs.lemmas.Iterator.Splits.{YieldsList-from_str_split}
pub use Rattle.std.specs.List.{AllByRecursion}
pub use Rattle.std.specs.Prelude.{IfSome, if◌then◌else◌}
pub use Rattle.tx_files.proofs.Uncalled.{uncalled}
pub use Rattle.tx_files.specs.Faults.{memory_stop, risks_stop, text_stop, write_stop}
pub use Rattle.tx_files.specs.TwoPlans.{AreJoined}
pub use Rattle.tx_files.specs.declared.fault.CommandFault.{CommandFault}
pub use Rattle.tx_files.specs.declared.fault.CommandFault.TheVariants.{Job}
pub use Rattle.tx_files.specs.declared.two_plans.TwoPlans.{TwoPlans}
pub use Rattle.tx_lint.specs.Lints.{lint_held}
pub use Rattle.tx_machine.specs.declared.event.Event.{Event}
pub use Rattle.tx_plan.specs.Plan.{Plan, code_named}
pub use Rattle.tx_plan.specs.Rules.{IsPlan}
pub use Rattle.tx_rank.specs.Findings.{IsTrueOf}
pub use Rattle.tx_rank.specs.declared.bounds.Bounds.{Bounds}
pub use Rattle.tx_rank.specs.declared.finding.Finding.{Finding}
pub use Rattle.tx_requests.specs.PageCodes.{is_shown}
pub use Rattle.tx_risk.specs.NamedRisks.{NamedRisk}
pub use Rattle.tx_risk.specs.Outages.{AreOutcomes}
pub use Rattle.tx_risk.specs.declared.cut.Outcome.{Outcome}
pub use Rattle.tx_text.proofs.Exits.{exits_with}
pub use Rattle.tx_text.specs.Ends.{input, output}
pub use Rattle.tx_text.specs.declared.frame.FaultKind.TheVariants.{Frame, Word}
