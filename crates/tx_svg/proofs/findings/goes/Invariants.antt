use Rattle.std.proofs.Common.{◌≡◌, drop}
use Rattle.tx_svg.specs.inner.WrongSteps.{goes}
use Rattle.tx_svg.proofs.findings.goes.Given as goal

abbrev pub invariant-loop-step : goal.invariant-loop-step
invariant-loop-step g l = goes l.walk.start l.walk.steps l.from l.to ≡ goes l.at (drop l.step-index l.walk.steps) l.from l.to
