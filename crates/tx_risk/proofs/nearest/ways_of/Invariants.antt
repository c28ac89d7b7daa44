use Rattle.tx_risk.proofs.Common.{◌≤◌, ◌+◌, length, left_net, Grows}
use Rattle.tx_risk.proofs.Measuring.{AreKept}
use Rattle.tx_risk.proofs.nearest.ways_of.Given as goal

abbrev pub invariant-loop-index : goal.invariant-loop-index
invariant-loop-index g l = record {
  kept : AreKept (left_net l.left) l.legs.items l.order l.dead_ends l.index l.kept.items;
  grown : Grows l.fn.legs.items l.legs.items;
  short : length l.legs.items ≤ length l.fn.legs.items + l.index;
}
