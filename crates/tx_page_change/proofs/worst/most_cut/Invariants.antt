use Rattle.tx_page_change.proofs.Common.{◌≡◌, take}
use Rattle.tx_page_change.specs.Numbers.{most_cut}
use Rattle.tx_page_change.proofs.worst.most_cut.Given as goal

abbrev pub invariant-loop-i : goal.invariant-loop-i
invariant-loop-i g l = l.most ≡ most_cut l.plan (take l.i l.outcomes)
