use Rattle.tx_commands.proofs.arguments.Syntax.over_plan.Goals as goal

pub returns : goal.returns
returns c = c.file.ensures _ c.new.ensures
