use Rattle.tx_engine.proofs.Common.{◌≡◌, drop, released_all, CanReleaseAll}
use Rattle.tx_engine.proofs.ending.release_hops.Given as goal

abbrev pub invariant-loop-hop : goal.invariant-loop-hop
invariant-loop-hop g l =
    record {
      can : CanReleaseAll l.circuits (drop l.hop-index l.hops);
      comes : released_all l.circuits (drop l.hop-index l.hops) ≡ released_all l.fn.circuits l.hops;
    }
