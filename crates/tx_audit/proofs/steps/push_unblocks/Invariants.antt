use Rattle.tx_audit.proofs.Common.{◌≡◌, ◌++◌, map, take, Unblock}
use Rattle.tx_audit.proofs.steps.push_unblocks.Given as goal

abbrev pub invariant-loop-group : goal.invariant-loop-group
invariant-loop-group g l = l.events.items ≡ l.initial.events.items ++ map Unblock (take l.group-index l.groups)
