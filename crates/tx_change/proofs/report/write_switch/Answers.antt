use Rattle.std.proofs.Common.{ap, sym, ◌∙◌}
use Rattle.std.specs.Prelude.{codes}
use Rattle.tx_text.proofs.Putting.{puts_none, puts_is}
use Rattle.tx_join.specs.Steps.{part}
use Rattle.tx_change.proofs.report.write_switch.Goals as goal

pub returns-then-differ : goal.returns-then-differ
returns-then-differ g c = puts_is (ap (λ b. part b (codes "SWITCH\n")) (sym c.differ.ensures ∙ c.if-differ.true)) c.put_bytes.ensures

pub returns-else-differ : goal.returns-else-differ
returns-else-differ g c = puts_is (ap (λ b. part b (codes "SWITCH\n")) (sym c.differ.ensures ∙ c.if-differ.false)) puts_none
