use Rattle.tx_trace.proofs.Common.{sym, subst, ◌∙◌, Among, find_mem, has_free}
use Rattle.tx_trace.proofs.first_way.first_step.Goals as goal

pub far-requires-clause-listed : goal.far-requires-clause-listed
far-requires-clause-listed g c =
    subst (Among c.in_ok-group.group) c.list.ensures.value (find_mem (has_free c.args.plan.now c.args.way.now) c.list.result.now c.in_ok-group.group (sym c.first_free.ensures ∙ c.in_ok-group.was)).0
