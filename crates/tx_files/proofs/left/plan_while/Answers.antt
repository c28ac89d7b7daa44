use Rattle.std.proofs.Common.{◌∙◌, ap}
use Rattle.tx_trace.specs.Left.{plan_left}
use Rattle.tx_files.proofs.left.plan_while.Goals as goal

pub returns-clause-left : goal.returns-clause-left
returns-clause-left g c =
    c.in_ok-left.ensures ∙ ap (plan_left c.args.plan) (c.deref.ensures.value ∙ c.in_ok-groups.ensures)

pub returns-clause-rules : goal.returns-clause-rules
returns-clause-rules g c = c.rules.ensures
