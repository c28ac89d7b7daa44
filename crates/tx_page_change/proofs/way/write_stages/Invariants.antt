use Rattle.tx_page_change.proofs.Common.{Sets, texts_below}
use Rattle.tx_page_change.specs.WayTexts.{stage_lists}
use Rattle.tx_page_change.proofs.way.write_stages.Given as goal

abbrev pub invariant-loop-stage : goal.invariant-loop-stage
invariant-loop-stage g l = Sets g.W.PageSink.seen l.initial.sink l.sink (texts_below l.stage (stage_lists l.order))
