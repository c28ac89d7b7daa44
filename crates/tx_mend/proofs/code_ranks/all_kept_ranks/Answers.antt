use Rattle.tx_mend.proofs.Common.{◌∙◌, length, sym, ap, refl, arith, code_ranks, kept_ranks}
use Rattle.tx_mend.proofs.Placed.{map_pushed}
use Rattle.tx_mend.proofs.Tables.{ranks_got}
use Rattle.tx_mend.proofs.code_ranks.all_kept_ranks.Goals as goal

pub kept_for-requires : goal.kept_for-requires
kept_for-requires g c =
    let t = c.args.task.now in
    let f = code_ranks t.plan.now t.limits.limit t.limits.spare in
    let n = c.loop-index.index in
    let l = c.loop-index-test.true in
    let k = c.codes-index-end.ensures.count in
    c.ranks_at.ensures ∙ ranks_got f (length t.plan.now.codes) n n c.args.least.now c.requires (omega arith) refl ∙ ap f (sym c.of-code.ensures)

pub loop-index-preserved : goal.loop-index-preserved
loop-index-preserved g c =
    let t = c.args.task.now in
    let f = kept_ranks t.plan.now t.limits.limit t.limits.spare in
    map_pushed f c.loop-index.index c.loop-index.table.items c.push.new.self.items c.in_ok-kept_for.field-0 c.loop-index.invariant c.in_ok-push.ensures.items (c.in_ok-kept_for.ensures ∙ ap f c.of-code.ensures)
