use Rattle.tx_plantext.proofs.SamePlans.{same_lists}
use Rattle.tx_plantext.proofs.reading_back.have_same_lists.Goals as goal

pub returns : goal.returns
returns g c = λ h. same_lists c.args.plan.now c.args.read.now (c.has_lists.ensures c.if-not-has_lists.false) (c.has_lists-2.ensures h)
