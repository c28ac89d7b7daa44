use Rattle.tx_plantext.specs.Revised.{SameLinesStand, says_too}
use Rattle.tx_plantext.proofs.AmongLines.{all_found}
use Rattle.tx_plantext.proofs.same_lines.same_lines_stand.Goals as goal

pub returns : goal.returns
returns g c = λ _.
    all_found (says_too c.args.plan.now) (SameLinesStand c.args.text.now c.args.plan.now c.args.revised.now) c.lines.lines c.lines.left c.lines.invariant c.in_default.ensures.steps.0
