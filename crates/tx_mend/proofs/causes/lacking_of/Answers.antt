use Rattle.tx_mend.proofs.Common.{◌∙◌, length, sym, ap, refl, arith, unserved_for, missing_for, code_ranks}
use Rattle.tx_mend.proofs.Tables.{ranks_got, flat_grown}
use Rattle.tx_mend.proofs.causes.lacking_of.Goals as goal

pub add_for_code-requires-clause-code : goal.add_for_code-requires-clause-code
add_for_code-requires-clause-code g c = let t = c.loop-index-test.true in let e = c.codes-index-end.ensures.count in let o = c.of-code.ensures in omega arith

pub add_for_code-requires-clause-least : goal.add_for_code-requires-clause-least
add_for_code-requires-clause-least g c =
    let t = c.args.task.now in
    let f = code_ranks t.plan.now t.limits.limit t.limits.spare in
    let n = c.loop-index.index in
    let l = c.loop-index-test.true in
    let k = c.codes-index-end.ensures.count in
    c.ranks_at.ensures ∙ ranks_got f (length t.plan.now.codes) n n c.args.table.now c.requires (omega arith) refl ∙ ap f (sym c.of-code.ensures)

pub loop-index-preserved : goal.loop-index-preserved
loop-index-preserved g c =
    let t = c.args.task.now in
    let p = t.plan.now in
    let i = c.loop-index.invariant in
    let u = unserved_for p t.limits.limit t.limits.spare in
    let m = missing_for p t.limits.limit t.limits.spare in
    let n = c.loop-index.index in
    record {
      unserved = flat_grown u n c.loop-index.lacking.unserved.items c.add_for_code.new.lacking.unserved.items i.unserved (u c.of-code.result) c.in_ok-add_for_code.ensures.unserved (ap u c.of-code.ensures);
      missing = flat_grown m n c.loop-index.lacking.missing.items c.add_for_code.new.lacking.missing.items i.missing (m c.of-code.result) c.in_ok-add_for_code.ensures.missing (ap m c.of-code.ensures);
    }
