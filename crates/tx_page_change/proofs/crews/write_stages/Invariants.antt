use Rattle.tx_page_change.proofs.Common.{Sets, texts_below}
use Rattle.tx_page_change.specs.CrewTexts.{stage_work_texts}
use Rattle.tx_page_change.proofs.crews.write_stages.Given as goal

abbrev pub invariant-loop-stage : goal.invariant-loop-stage
invariant-loop-stage g l = Sets g.W.PageSink.seen l.initial.sink l.sink (texts_below l.stage (stage_work_texts l.order l.exchange))
