use Rattle.tx_commands.proofs.audit.audit_grammar.Goals as goal

pub returns : goal.returns
returns c =
    c.option-4.ensures _ (c.option-3.ensures _ (c.option-2.ensures _ (c.option.ensures _ (c.limits.ensures _ c.over_plan.ensures))))
