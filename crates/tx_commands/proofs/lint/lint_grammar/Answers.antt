use Rattle.tx_commands.proofs.lint.lint_grammar.Goals as goal

pub returns : goal.returns
returns c = c.option.ensures _ c.over_plan.ensures
