use Rattle.std.proofs.Common.{◌≡◌, ◌++◌, take, drop}
use Rattle.tx_page.specs.WrongTexts.{listed_before}
use Rattle.tx_page.proofs.walks.listed_before.Given as goal

abbrev pub invariant-loop-i : goal.invariant-loop-i
invariant-loop-i l = listed_before l.group l.list ≡ take l.i l.list ++ listed_before l.group (drop l.i l.list)
