use Rattle.std.proofs.Common.{◌≡◌, ◌∙◌, ap, sym, subst, arith}
use Rattle.tx_plan.specs.Plan.{code_named}
use Rattle.tx_plan.proofs.FirstPair.{NoneBelow, plan_look_up, none_below, found_both, none_there, paired, no_pair}
use Rattle.tx_check.proofs.ambiguity.ambiguous.Goals as goal

pub loop-number-init : goal.loop-number-init
loop-number-init g c = none_below c.args.plan.now.codes

pub loop-number-preserved : goal.loop-number-preserved
loop-number-preserved g c =
    let p = c.args.plan.now in
    none_there p.codes (code_named p) (plan_look_up p c.rules.ensures) c.loop-number.number c.zip-pair.result c.loop-number.invariant
    (found_both (code_named p) c.loop-number.number _ c.code_named.result c.code_named-in-loop-number.result c.zip-pair.result c.three_figures-longer.ensures c.code_named.ensures c.code_named-in-loop-number.ensures c.zip-pair.ensures)
    (sym c.is_some.ensures ∙ c.if-is_some.false)

pub returns-then-is_some : goal.returns-then-is_some
returns-then-is_some g c =
    let p = c.args.plan.now in
    paired p.codes (code_named p) (plan_look_up p c.rules.ensures) c.loop-number.number c.zip-pair.result (omega arith) c.loop-number.invariant
    (found_both (code_named p) c.loop-number.number _ c.code_named.result c.code_named-in-loop-number.result c.zip-pair.result c.three_figures-longer.ensures c.code_named.ensures c.code_named-in-loop-number.ensures c.zip-pair.ensures)
    (sym c.is_some.ensures ∙ c.if-is_some.true)

pub returns : goal.returns
returns g c =
    let p = c.args.plan.now in
    let end : c.loop-number.number ≡ 1000 = omega arith in
    sym (no_pair p.codes (code_named p) (plan_look_up p c.rules.ensures) (subst (NoneBelow p.codes) end c.loop-number.invariant))
