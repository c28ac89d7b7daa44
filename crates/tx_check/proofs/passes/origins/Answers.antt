use Rattle.tx_check.proofs.Common.{◌≡◌, length, arith, ◌∙◌, is_origin}
use Rattle.std.proofs.lemmas.List.{length-set}
use Rattle.tx_check.proofs.Finding.{marked_more}
use Rattle.tx_check.proofs.passes.origins.Goals as goal

pub loop-index-preserved : goal.loop-index-preserved
loop-index-preserved g c =
    let room : length c.loop-index.marks ≡ 256 = c.loop-index.invariant.0 in
    let few = c.exchanges-index-end.ensures.rules.few_exchanges in
    (length-set c.loop-index.marks _ _ ∙ room, marked_more c.loop-index.marks (is_origin c.args.plan.now) c.loop-index.index _ _ (omega arith) c.of.ensures c.is_origin.ensures c.loop-index.invariant.1)
