use Rattle.tx_audit.proofs.Common.{◌++◌, ◌∙◌, append-nil, ap, map, sym, take_all, Unblock}
use Rattle.tx_audit.proofs.Loops.{one_pushed}
use Rattle.tx_audit.proofs.steps.push_unblocks.Goals as goal

pub loop-group-preserved : goal.loop-group-preserved
loop-group-preserved g c = one_pushed Unblock c.args.groups.now c.loop-group.group-index c.group-item.result c.args.events.now.items c.loop-group.events.items c.push.new.self.items c.loop-group-test.true c.group-item.is c.loop-group.invariant c.in_ok-push.ensures.items

pub loop-group-init : goal.loop-group-init
loop-group-init g c = sym (append-nil c.args.events.now.items)

pub returns : goal.returns
returns g c = c.loop-group.invariant ∙ ap (λ l. c.args.events.now.items ++ map Unblock l) (take_all c.loop-group.group-index c.args.groups.now c.loop-group-test.false)
