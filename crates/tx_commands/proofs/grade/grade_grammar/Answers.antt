use Rattle.tx_commands.proofs.grade.grade_grammar.Goals as goal

pub returns : goal.returns
returns c =
    c.option-2.ensures _ (c.option.ensures _ c.over_plan.ensures)
