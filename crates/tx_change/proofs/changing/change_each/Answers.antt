use Rattle.tx_change.proofs.Listing.{changed_first}
use Rattle.tx_change.proofs.changing.change_each.Goals as goal

pub loop-index-init : goal.loop-index-init
loop-index-init g c = changed_first c.args.old.now c.args.new.now c.args.limits.limit c.args.limits.spare c.args.cert.now c.args.findings.now.items c.requires.blank c.requires.pair
