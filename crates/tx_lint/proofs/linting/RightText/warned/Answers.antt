use Rattle.std.proofs.Common.{ap}
use Rattle.tx_lint.specs.Lints.{Warnings, AreWarningsOf}
use Rattle.tx_lint.proofs.linting.RightText.warned.Goals as goal

pub returns : goal.returns
returns g c =
    let plan = c.self.inside.plan in
    let w = rw c.deref.ensures.value at c.in_ok-warnings.ensures in
    let told : AreWarningsOf plan c.self.inside.entries.items c.args.risks
    (Warnings plan c.args.risks c.in_ok-warnings.warnings.items) =
    (w.0, w.1, ap (Warnings plan c.args.risks) w.2) in
    rw (← c.self.view_is) told
