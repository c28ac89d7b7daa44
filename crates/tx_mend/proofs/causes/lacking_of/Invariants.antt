use Rattle.tx_mend.proofs.Common.{◌≡◌, flat_map, indexes, unserved_for, missing_for}
use Rattle.tx_mend.proofs.causes.lacking_of.Given as goal

abbrev pub invariant-loop-index : goal.invariant-loop-index
invariant-loop-index g l = record {
  unserved : l.lacking.unserved.items ≡ flat_map (unserved_for l.task.plan.now l.task.limits.limit l.task.limits.spare) (indexes l.index);
  missing : l.lacking.missing.items ≡ flat_map (missing_for l.task.plan.now l.task.limits.limit l.task.limits.spare) (indexes l.index);
}
