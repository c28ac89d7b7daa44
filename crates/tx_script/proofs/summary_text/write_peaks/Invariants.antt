use Rattle.tx_script.proofs.Common.{flat_map, range_with_len, Puts, peak_line, use_at}
use Rattle.tx_script.proofs.summary_text.write_peaks.Given as goal

abbrev pub invariant-loop-index : goal.invariant-loop-index
invariant-loop-index g l = Puts g.W.Sink.taken g.W.Sink.failed l.initial.sink l.sink (flat_map (λ x. peak_line l.plan x (use_at l.counts.groups x).most) (range_with_len 0 l.index))
