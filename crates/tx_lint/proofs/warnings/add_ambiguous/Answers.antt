use Rattle.tx_lint.proofs.Common.{◌∙◌, ◌++◌, List, map, ap, Warning}
use Rattle.tx_lint.proofs.Warned.{ambiguous_with, ambiguous_is, next_code}
use Rattle.tx_lint.proofs.warnings.add_ambiguous.Goals as goal

pub loop-index-preserved : goal.loop-index-preserved
loop-index-preserved g c =
    let p = c.args.plan.now in
    let is = ambiguous_is p c.args.code c.loop-index.index c.of-shorter.result c.begins-begun.result
    c.begins-begun.ensures c.of-shorter.ensures in
    next_code c.args.line c.loop-index.index (ambiguous_with p c.args.code) c.args.found.now.items
    c.loop-index.found.items c.add_if.new.found.items c.loop-index.invariant
    (c.in_ok-add_if.ensures
    ∙ ap (λ (ws : List Warning). c.loop-index.found.items ++ map (λ (w : Warning). (c.args.line, w)) ws) is)
