use Rattle.std.proofs.Common.{sym, ◌∙◌}
use Rattle.tx_plan.proofs.Longest.{best_found, none_is}
use Rattle.tx_machine.proofs.plain.keyed.code_of.Goals as goal

pub loop-index-preserved-then-is_longer : goal.loop-index-preserved-then-is_longer
loop-index-preserved-then-is_longer g c =
    best_found c.args.plan.now c.args.keyed.now c.loop-index.index c.loop-index.best c.loop-index.width c.loop-index.invariant c.loop-index-test.true c.of-code.result c.of-code.ensures c.code_figures-text.result.now c.code_figures-text.ensures.value c.is_none-first.result (none_is c.loop-index.best c.is_none-first.result c.is_none-first.ensures) _ (sym c.if-is_longer.true ∙ c.is_longer.ensures)

pub loop-index-preserved : goal.loop-index-preserved
loop-index-preserved g c =
    best_found c.args.plan.now c.args.keyed.now c.loop-index.index c.loop-index.best c.loop-index.width c.loop-index.invariant c.loop-index-test.true c.of-code.result c.of-code.ensures c.code_figures-text.result.now c.code_figures-text.ensures.value c.is_none-first.result (none_is c.loop-index.best c.is_none-first.result c.is_none-first.ensures) _ (sym c.if-is_longer.false ∙ c.is_longer.ensures)
