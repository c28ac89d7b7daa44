use Rattle.tx_lint.specs.Warnings.{is_mute}
use Rattle.tx_lint.proofs.Warned.{next_where}
use Rattle.tx_lint.proofs.warnings.mute_codes.Goals as goal

pub loop-index-preserved : goal.loop-index-preserved
loop-index-preserved g c =
    next_where (is_mute c.args.plan.now c.args.exchange) c.loop-index.index
    c.of-code.result c.is_mute-mute.result c.loop-index.found.items c.push_if.new.found.items
    c.loop-index.invariant c.is_mute-mute.ensures c.of-code.ensures c.in_ok-push_if.ensures
