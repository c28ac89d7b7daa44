use Rattle.std.proofs.Common.{rules}
use Rattle.tx_plan.proofs.entries.bar_entry.Goals as goal

pub returns-then-not-are_figures-clause-err : goal.returns-then-not-are_figures-clause-err
returns-then-not-are_figures-clause-err c = search rules
