use Rattle.std.proofs.Common.{◌-◌, ◌≡◌, suc, length, sym, arith}
use Rattle.tx_rank.proofs.Ways.{end_last}
use Rattle.tx_rank.proofs.walk.end.Goals as goal

pub returns-in-Some : goal.returns-in-Some
returns-in-Some c =
    let i = c.in-Some.ensures.item.3.0 in
    let k : suc (length c.args.steps.now - 1) ≡ length c.args.steps.now = omega arith in
    end_last c.args.start c.args.steps.now (length c.args.steps.now - 1) c.in-Some.step.now k (sym c.in-Some.ensures.value)
