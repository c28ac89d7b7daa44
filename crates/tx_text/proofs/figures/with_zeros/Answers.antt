use Rattle.std.proofs.Common.{◌∙◌}
use Rattle.tx_text.proofs.PaddedTexts.{padded_full, padded_copy}
use Rattle.tx_text.proofs.figures.with_zeros.Goals as goal

pub returns-in-Ok : goal.returns-in-Ok
returns-in-Ok g c = c.in-Ok.ensures.1.same ∙ padded_full g.row.N c.args.text.now c.in-Ok.ensures.1.long

pub returns-in-Err : goal.returns-in-Err
returns-in-Err g c = rw c.copy_from_slice.ensures.after (padded_copy g.row.N c.args.text.now)
