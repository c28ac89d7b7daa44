use Rattle.tx_audit.proofs.Common.{◌≡◌, ◌-◌, ◌∙◌, ap, refl, sym, suc, Some, length, arith, slice_get_read, slice_get}
use Rattle.tx_audit.proofs.Loops.{few_no_turn, turns_at}
use Rattle.tx_audit.proofs.turns.turns_on_one.Goals as goal

pub returns-then-count-lt2 : goal.returns-then-count-lt2
returns-then-count-lt2 g c = sym (few_no_turn c.args.plan.now c.args.steps.now c.if-count-lt2.true)

pub returns : goal.returns
returns g c =
    let steps = c.args.steps.now in
    let many = c.if-count-lt2.false in
    let first = slice_get_read steps (length steps) (length steps - 2) c.index-steps-count-2.result refl (omega arith) c.index-steps-count-2.is in
    let second = slice_get_read steps (length steps) (length steps - 1) c.index-steps-count.result refl (omega arith) c.index-steps-count.is in
    let next : suc (length steps - 2) ≡ length steps - 1 = omega arith in
    let second' : slice_get steps (suc (length steps - 2)) ≡ Some c.index-steps-count.result = ap (slice_get steps) next ∙ second in
    c.is_single.ensures ∙ sym (turns_at c.args.plan.now steps (length steps - 2) c.index-steps-count-2.result c.index-steps-count.result (omega arith) first second')
