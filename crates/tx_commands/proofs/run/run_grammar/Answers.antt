use Rattle.tx_commands.proofs.run.run_grammar.Goals as goal

pub returns : goal.returns
returns c = c.flag-3.ensures _ (c.flag-2.ensures _ (c.flag.ensures _ (c.limits.ensures _ (c.option.ensures _ (c.file.ensures _ c.over_plan.ensures)))))
