use Rattle.tx_lint.proofs.Common.{◌∙◌, ◌++◌, List, map, ap, Warning}
use Rattle.tx_lint.proofs.Warned.{missing_list, missing_is, next_code}
use Rattle.tx_lint.proofs.warnings.add_missing_lists.Goals as goal

pub loop-index-preserved : goal.loop-index-preserved
loop-index-preserved g c =
    let p = c.args.plan.now in
    let missing = missing_is p c.args.exchange c.loop-index.index c.of-code.result c.wants_list-wanting.result c.wants_list-wanting.ensures c.of-code.ensures in
    next_code c.args.line c.loop-index.index (missing_list p c.args.exchange) c.args.found.now.items c.loop-index.found.items c.add_if.new.found.items c.loop-index.invariant
    (c.in_ok-add_if.ensures ∙ ap (λ (ws : List Warning). c.loop-index.found.items ++ map (λ (w : Warning). (c.args.line, w)) ws) missing)
