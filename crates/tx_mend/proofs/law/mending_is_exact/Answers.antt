use Rattle.tx_mend.proofs.Trimmed.{mended_is, mending_exact}
use Rattle.tx_mend.proofs.law.mending_is_exact.Goals as goal

pub returns : goal.returns
returns c = record { mended = mended_is; exact = mending_exact }
