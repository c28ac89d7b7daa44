use Rattle.tx_lint.proofs.Common.{◌∙◌, ◌++◌, List, map, ap, Warning, SharedRisk, warned_if}
use Rattle.tx_lint.proofs.Warned.{shared_by, next_code}
use Rattle.tx_lint.proofs.warnings.add_shared_risks.Goals as goal

pub loop-index-preserved : goal.loop-index-preserved
loop-index-preserved g c =
    let k = c.loop-index.index in
    let is = ap (λ b. warned_if b (SharedRisk k)) c.lie_in-shared.ensures in
    next_code c.args.line k (shared_by c.args.plan.now c.args.risks.now c.args.groups.now)
    c.args.found.now.items c.loop-index.found.items c.add_if.new.found.items c.loop-index.invariant
    (c.in_ok-add_if.ensures
    ∙ ap (λ (ws : List Warning). c.loop-index.found.items ++ map (λ (w : Warning). (c.args.line, w)) ws) is)
