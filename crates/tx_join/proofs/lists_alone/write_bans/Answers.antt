use Rattle.tx_join.proofs.Common.{not, ◌∷◌, bar_words, has_both}
use Rattle.tx_join.proofs.AloneLines.{kept_more}
use Rattle.tx_join.proofs.lists_alone.write_bans.Goals as goal

pub loop-index-preserved : goal.loop-index-preserved
loop-index-preserved g c =
    let p = c.args.plan.now in
    kept_more (λ b. c.args.word.now ∷ bar_words p b) (λ b. not (has_both c.args.other.now p b.exchange b.code)) p.bars c.loop-index.index c.loop-index.invariant c.write_ban_at.ensures
