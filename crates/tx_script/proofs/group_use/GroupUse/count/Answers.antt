use Rattle.tx_script.proofs.Common.{arith, Fits-of_lt}
use Rattle.tx_script.proofs.GroupUses.{count_within}
use Rattle.tx_script.proofs.group_use.GroupUse.count.Goals as goal

pub overflow_add-count : goal.overflow_add-count
overflow_add-count c =
    let few = c.requires in
    let low = c.loop-number-test.true in
    let so = c.loop-number.invariant in
    let within = count_within c.args.self.now.taken c.loop-number.number in
    Fits-of_lt (omega arith)
