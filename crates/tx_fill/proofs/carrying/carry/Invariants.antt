use Rattle.std.proofs.Common.{◌≡◌, ◌-◌}
use Rattle.tx_fill.specs.Fills.{carried}
use Rattle.tx_fill.proofs.carrying.carry.Given as goal

abbrev pub invariant-loop : goal.invariant-loop
invariant-loop g l = record {
  plan : l.network.plan ≡ l.initial.network.plan;
  state : carried l.initial.network.plan l.call (l.most - l.counter) l.network.state
      ≡ carried l.initial.network.plan l.call l.most l.initial.network.state;
}
