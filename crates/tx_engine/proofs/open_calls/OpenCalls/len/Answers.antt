use Rattle.tx_engine.proofs.Common.{length, ap, ◌∙◌, KeptCalls, calls_in}
use Rattle.tx_engine.proofs.Bridge.{length_calls}
use Rattle.tx_engine.proofs.open_calls.OpenCalls.len.Goals as goal

pub returns : goal.returns
returns g c = c.len.ensures ∙ length_calls c.self.inside.calls.slots ∙ ap (λ (v : KeptCalls). length (calls_in v)) c.self.view_is
