use Rattle.tx_lint.proofs.Common.{◌≡◌, ◌+◌, fold, take, no_gathering, AreFew, gathering_held}
use Rattle.tx_lint.proofs.Gathered.{on_held}
use Rattle.tx_lint.proofs.gathering.gather.Given as goal

abbrev pub invariant-loop-i : goal.invariant-loop-i
invariant-loop-i g l = record {
  so_far : gathering_held l.gathering
      ≡ fold on_held no_gathering (take l.i l.faults);
  few : AreFew (l.i + 1) (gathering_held l.gathering);
}
