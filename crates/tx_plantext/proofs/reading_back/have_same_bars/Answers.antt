use Rattle.tx_plantext.proofs.SamePlans.{same_bars}
use Rattle.tx_plantext.proofs.reading_back.have_same_bars.Goals as goal

pub returns : goal.returns
returns g c = λ h. same_bars c.args.plan.now c.args.read.now (c.has_bars.ensures c.if-not-has_bars.false) (c.has_bars-2.ensures h)
