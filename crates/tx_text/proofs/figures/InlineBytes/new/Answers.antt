use Rattle.tx_text.proofs.PaddedTexts.{padded_text}
use Rattle.tx_text.proofs.figures.InlineBytes.new.Goals as goal

pub invariant_of-result : goal.invariant_of-result
invariant_of-result g c =
    rw c.with_zeros.ensures (padded_text g.row.N c.args.text.now c.requires.text)
