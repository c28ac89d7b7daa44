use Rattle.tx_requests.proofs.Comparing.{outlook_in_order}
use Rattle.tx_requests.proofs.compare.CompareRequestRequest.print.Goals as goal

pub comparison_of-comparison-requires-clause-new : goal.comparison_of-comparison-requires-clause-new
comparison_of-comparison-requires-clause-new g c = outlook_in_order _ _ _ _ _ c.requires.2.new

pub comparison_of-comparison-requires-clause-old : goal.comparison_of-comparison-requires-clause-old
comparison_of-comparison-requires-clause-old g c = outlook_in_order _ _ _ _ _ c.requires.2.old

pub returns : goal.returns
returns g c =
    (c.comparison_of-comparison.result, c.comparison_of-comparison.ensures, c.write_comparison.ensures)
