use Rattle.tx_mend.proofs.Common.{◌≡◌, map, indexes, kept_ranks}
use Rattle.tx_mend.proofs.code_ranks.all_kept_ranks.Given as goal

abbrev pub invariant-loop-index : goal.invariant-loop-index
invariant-loop-index g l = l.table.items ≡ map (kept_ranks l.task.plan.now l.task.limits.limit l.task.limits.spare) (indexes l.index)
