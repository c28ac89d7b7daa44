use Rattle.tx_commands.proofs.fill.fill_grammar.Goals as goal

pub returns : goal.returns
returns c = c.option.ensures _ (c.file-2.ensures _ (c.file.ensures _ c.over_plan.ensures))
