use Rattle.tx_page_change.proofs.Common.{Sets, texts_below}
use Rattle.tx_page_change.specs.CrewTexts.{crew_texts}
use Rattle.tx_page_change.proofs.crews.write_each.Given as goal

abbrev pub invariant-loop-index : goal.invariant-loop-index
invariant-loop-index g l = Sets g.W.PageSink.seen l.initial.sink l.sink (texts_below l.index (crew_texts l.safe l.change))
