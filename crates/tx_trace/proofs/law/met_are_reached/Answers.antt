use Rattle.tx_trace.proofs.Reached.{all_once, reached_met, met_reached}
use Rattle.tx_trace.proofs.law.met_are_reached.Goals as goal

pub returns-clause-reached : goal.returns-clause-reached
returns-clause-reached c = λ p d x y ok known there. (
  λ m. met_reached p d x ok known there y m,
  λ r. reached_met p d x ok known there y r,
)

pub returns-clause-once : goal.returns-clause-once
returns-clause-once c = λ p d x. all_once p d x
