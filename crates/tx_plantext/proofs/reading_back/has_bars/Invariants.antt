use Rattle.tx_plantext.proofs.Common.{◌≡◌, true, take, AllByRecursion, is_barred}
use Rattle.tx_plantext.proofs.reading_back.has_bars.Given as goal

abbrev pub invariant-loop-index : goal.invariant-loop-index
invariant-loop-index g l = AllByRecursion (λ b. is_barred l.plan b.exchange b.code ≡ true) (take l.index l.other.bars)
