use Rattle.tx_script.proofs.Common.{◌≡◌, count_in}
use Rattle.tx_script.proofs.group_use.GroupUse.count.Given as goal

abbrev pub invariant-loop-number : goal.invariant-loop-number
invariant-loop-number l = l.count ≡ count_in l.self.taken l.number
