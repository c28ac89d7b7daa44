use Rattle.tx_audit.proofs.Common.{◌≡◌, ◌++◌, map, take, Block}
use Rattle.tx_audit.proofs.steps.push_blocks.Given as goal

abbrev pub invariant-loop-group : goal.invariant-loop-group
invariant-loop-group g l = l.events.items ≡ l.initial.events.items ++ map Block (take l.group-index l.groups)
