use Rattle.tx_order.proofs.Verdicts.{new_sound, new_unsound}
use Rattle.tx_order.proofs.judging.verdict_of.Goals as goal

pub returns-in-Found : goal.returns-in-Found
returns-in-Found g c = λ before after new limit spare h right.
    new_sound before after limit spare new c.args.order h c.args.ranking right c.in-Found.field-0 c.in-Found.is

pub returns-in-Fails : goal.returns-in-Fails
returns-in-Fails g c = λ before after new limit spare h right.
    new_unsound before after limit spare new c.args.order h c.args.ranking right c.in-Fails.findings c.in-Fails.is
