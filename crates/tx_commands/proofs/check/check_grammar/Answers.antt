use Rattle.tx_commands.proofs.check.check_grammar.Goals as goal

pub returns : goal.returns
returns c = c.limits.ensures _ (c.file.ensures _ c.over_plan.ensures)
