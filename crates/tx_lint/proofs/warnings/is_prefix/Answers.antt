use Rattle.std.proofs.Common.{◌∙◌}
use Rattle.tx_lint.proofs.Warned.{prefix-pointwise}
use Rattle.tx_lint.proofs.warnings.is_prefix.Goals as goal

pub returns : goal.returns
returns c = c.starts_with.ensures.value ∙ prefix-pointwise c.args.front.now c.args.text.now
