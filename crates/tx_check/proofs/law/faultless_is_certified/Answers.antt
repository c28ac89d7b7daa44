use Rattle.tx_check.proofs.Faultless.{certified_of, faultless_of}
use Rattle.tx_check.proofs.law.faultless_is_certified.Goals as goal

pub returns : goal.returns
returns c = record { certified = certified_of; faultless = faultless_of }
