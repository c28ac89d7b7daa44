use Rattle.tx_fill.proofs.Common.{◌≡◌, map, take, state_after, release_of}
use Rattle.tx_fill.proofs.filling.release.Given as goal

abbrev pub invariant-loop-hop : goal.invariant-loop-hop
invariant-loop-hop g l = record {
  plan : l.network.plan ≡ l.initial.network.plan;
  state : l.network.state ≡ state_after l.initial.network.plan l.initial.network.state
      (map release_of (take l.hop-index l.hops));
}
