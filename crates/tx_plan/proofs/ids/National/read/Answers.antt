use Rattle.std.proofs.Common.{rules}
use Rattle.tx_plan.proofs.ids.National.read.Goals as goal

pub returns-then-not-are_figures : goal.returns-then-not-are_figures
returns-then-not-are_figures c = search rules
