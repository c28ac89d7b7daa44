use Rattle.tx_check.specs.Checks.{ranks_for, too_short_at, target_unranked_at, not_lower_at}
use Rattle.tx_check.proofs.Finding.{firsts_more}
use Rattle.tx_check.proofs.lists.code_faults.Goals as goal

pub loop-index-preserved : goal.loop-index-preserved
loop-index-preserved g c =
    let p = c.args.plan.now in
    let ranks = ranks_for p c.args.cert.now in
    firsts_more (too_short_at p ranks c.args.spare c.args.code) (target_unranked_at p ranks c.args.code) (not_lower_at p ranks c.args.code) c.loop-index.index _ _ _ _ c.loop-index.invariant c.of.ensures c.pair_faults.ensures c.or-firsts.ensures
