use Rattle.tx_trace.proofs.Passing.{listed_pass, pass_listed}
use Rattle.tx_trace.proofs.law.through_are_walks.Goals as goal

pub returns : goal.returns
returns c = λ p t k ok. (λ m. listed_pass p ok t k m, λ w. pass_listed p ok t k w)
