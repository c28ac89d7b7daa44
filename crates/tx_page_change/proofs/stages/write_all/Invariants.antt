use Rattle.tx_page_change.proofs.Common.{Sets, texts_below, stage_texts}
use Rattle.tx_page_change.proofs.stages.write_all.Given as goal

abbrev pub invariant-loop-stage : goal.invariant-loop-stage
invariant-loop-stage g l = Sets g.W.PageSink.seen l.initial.sink l.sink (texts_below l.stage (stage_texts l.order))
