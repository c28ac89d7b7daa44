use Rattle.tx_commands.proofs.trace.trace_grammar.Goals as goal

pub returns : goal.returns
returns c =
    c.option-3.ensures _ (c.option-2.ensures _ (c.option.ensures _ (c.word-2.ensures _ (c.word.ensures _ c.over_plan.ensures))))
