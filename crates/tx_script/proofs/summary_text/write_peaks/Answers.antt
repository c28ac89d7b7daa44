use Rattle.tx_script.proofs.Common.{peak_line, use_at}
use Rattle.tx_text.proofs.Ranges.{index_more}
use Rattle.tx_script.proofs.summary_text.write_peaks.Goals as goal

pub loop-index-preserved : goal.loop-index-preserved
loop-index-preserved g c =
    index_more (λ x. peak_line c.args.plan.now x (use_at c.args.counts.now.groups x).most) c.of-group.ensures c.loop-index.invariant (rw c.most_of.ensures at c.write_peak.ensures)
