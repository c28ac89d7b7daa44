use Rattle.std.proofs.Common.{◌≡◌, drop}
use Rattle.tx_change.specs.Shown.{at_end_of, takes_new}
use Rattle.tx_change.proofs.taking.takes_list.Given as goal

abbrev pub invariant-loop-i : goal.invariant-loop-i
invariant-loop-i g l =
    takes_new l.old l.code (at_end_of l.old l.code l.spare) l.walk.start l.walk.steps l.exchange
    ≡ takes_new l.old l.code (at_end_of l.old l.code l.spare) l.at (drop l.i l.steps) l.exchange
