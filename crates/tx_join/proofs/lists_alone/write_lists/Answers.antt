use Rattle.tx_join.proofs.Common.{not, ◌∷◌, route_words, has_both}
use Rattle.tx_join.proofs.AloneLines.{kept_more}
use Rattle.tx_join.proofs.lists_alone.write_lists.Goals as goal

pub loop-index-preserved : goal.loop-index-preserved
loop-index-preserved g c =
    let p = c.args.plan.now in
    kept_more (λ r. c.args.word.now ∷ route_words p r) (λ r. not (has_both c.args.other.now p r.exchange r.code)) p.routes c.loop-index.index c.loop-index.invariant c.write_list_at.ensures
