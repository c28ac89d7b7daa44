use Rattle.std.proofs.Common.{◌≡◌, take}
use Rattle.tx_plan.proofs.copying.bars_of.Given as goal

abbrev pub invariant-loop-index : goal.invariant-loop-index
invariant-loop-index g l = l.bars ≡ take l.index l.plan.bars
