use Rattle.tx_trace.proofs.OnlyCall.{goes_by}
use Rattle.tx_trace.proofs.law.only_call_goes_first_way.Goals as goal

pub returns : goal.returns
returns c = λ p c x line keyed ok known home code admitted. goes_by p ok c x line keyed known home code admitted
