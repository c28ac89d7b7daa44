use Rattle.tx_fill.proofs.Common.{◌≡◌, ◌-◌, [], drop, length, line_pairs}
use Rattle.tx_fill.specs.Fills.{filled}
use Rattle.tx_fill.proofs.carrying.call_in_turn.Given as goal

abbrev pub invariant-loop-line : goal.invariant-loop-line
invariant-loop-line g l = record {
  plan : l.network.plan ≡ l.plan;
  fresh : l.network.state.tickets ≡ [];
  state : filled l.plan (drop l.index (line_pairs l.plan l.exchange l.code)) l.network.state
      ≡ filled l.plan (line_pairs l.plan l.exchange l.code) l.initial.network.state;
}

abbrev pub decreases-loop-line : goal.decreases-loop-line
decreases-loop-line g l = length (line_pairs l.plan l.exchange l.code) - l.index
