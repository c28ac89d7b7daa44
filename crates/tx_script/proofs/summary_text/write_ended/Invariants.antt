use Rattle.std.proofs.Common.{take}
use Rattle.tx_script.proofs.Common.{flat_map, Puts, cause_text, ALL, calls_line, count_for}
use Rattle.tx_script.proofs.summary_text.write_ended.Given as goal

abbrev pub invariant-loop-cause : goal.invariant-loop-cause
invariant-loop-cause g l = Puts g.W.Sink.taken g.W.Sink.failed l.initial.sink l.sink (flat_map (λ cause. calls_line (cause_text cause) (count_for l.counts.calls cause)) (take l.cause-index ALL))
