use Rattle.tx_requests.proofs.Common.{◌∙◌}
use Rattle.tx_requests.proofs.Comparing.{outlook_in_order}
use Rattle.tx_requests.proofs.Surviving.{as_byte}
use Rattle.tx_requests.proofs.compare.CompareRequestRequest.end.Goals as goal

pub comparison_of-comparison-requires-clause-new : goal.comparison_of-comparison-requires-clause-new
comparison_of-comparison-requires-clause-new g c = outlook_in_order _ _ _ _ _ c.requires.2.new

pub comparison_of-comparison-requires-clause-old : goal.comparison_of-comparison-requires-clause-old
comparison_of-comparison-requires-clause-old g c = outlook_in_order _ _ _ _ _ c.requires.2.old

pub returns : goal.returns
returns g c =
    let is = c.comparison_of-comparison in
    let status = c.of.ensures.status ∙ c.from.ensures ∙ as_byte c.is_against-against.result in
    (is.result, is.ensures, (rw (← c.is_against-against.ensures) status, c.of.ensures.made))
