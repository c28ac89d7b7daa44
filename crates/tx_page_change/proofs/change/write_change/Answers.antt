use Rattle.tx_page_change.proofs.Common.{ap, sym, ◌∙◌, if◌then◌else◌, sets_then, sets_is}
use Rattle.tx_page_change.specs.StepTexts.{switching_texts, steps_texts}
use Rattle.tx_page_change.proofs.change.write_change.Goals as goal

pub returns-then-differ : goal.returns-then-differ
returns-then-differ g c =
    let h = c.args.change.now in
    sets_is (ap (λ b. if b then steps_texts c.args.safe h else switching_texts c.args.safe h.switching.now) (sym c.differ.ensures ∙ c.if-differ.true)) (sets_then c.set.ensures c.write_steps.ensures)

pub returns-else-differ : goal.returns-else-differ
returns-else-differ g c =
    let h = c.args.change.now in
    sets_is (ap (λ b. if b then steps_texts c.args.safe h else switching_texts c.args.safe h.switching.now) (sym c.differ.ensures ∙ c.if-differ.false)) (sets_then c.set.ensures c.write_switching.ensures)
