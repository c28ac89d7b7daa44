use Rattle.tx_order.proofs.Common.{◌<◌, ◌≤◌, ◌-◌, levels_of, IsSafeBetween}
use Rattle.tx_order.proofs.joining.furthest.Given as goal

abbrev pub invariant-loop-good : goal.invariant-loop-good
invariant-loop-good g l = record {
  up : l.from < l.good;
  apart : l.good < l.bad;
  within : l.bad ≤ levels_of l.transition.limit;
  safe : IsSafeBetween l.transition l.code l.from l.good;
  unsafe : IsSafeBetween l.transition l.code l.from l.bad → ⊥;
}

abbrev pub decreases-loop-good : goal.decreases-loop-good
decreases-loop-good g l = l.bad - l.good
