use Rattle.tx_join.proofs.Common.{ap, sym, ◌∙◌, ◌++◌, codes, puts_none, puts_then, puts_is}
use Rattle.tx_join.specs.Steps.{part, put_text}
use Rattle.tx_join.proofs.steps.write_before.Goals as goal

pub returns-then-not-differ : goal.returns-then-not-differ
returns-then-not-differ g c = puts_is (ap (λ b. part b (codes "BEFORE\n" ++ put_text c.args.old.now c.args.new.now)) (sym c.differ.ensures ∙ c.if-not-differ.true)) puts_none

pub returns : goal.returns
returns g c = puts_is (ap (λ b. part b (codes "BEFORE\n" ++ put_text c.args.old.now c.args.new.now)) (sym c.differ.ensures ∙ c.if-not-differ.false)) (puts_then c.put_bytes.ensures c.write_put.ensures)
