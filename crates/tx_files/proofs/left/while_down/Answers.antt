use Rattle.tx_files.proofs.Common.{inl, inr, refl, exits_with}
use Rattle.tx_files.proofs.left.while_down.Goals as goal

pub returns-in_err-texts-clause-left : goal.returns-in_err-texts-clause-left
returns-in_err-texts-clause-left g c =
    rw c.in_err-texts.was
    (exits_with c.from_residual.result c.in_err-texts.field-0.0 c.from_residual.ensures.1)
