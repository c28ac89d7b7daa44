use Rattle.tx_fill.proofs.Common.{◌≡◌, map, take, state_after, Block}
use Rattle.tx_fill.proofs.filling.block.Given as goal

abbrev pub invariant-loop-group : goal.invariant-loop-group
invariant-loop-group g l = record {
  plan : l.network.plan ≡ l.initial.network.plan;
  state : l.network.state ≡ state_after l.initial.network.plan l.initial.network.state
      (map Block (take l.group-index l.groups));
}
