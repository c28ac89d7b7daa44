use Rattle.tx_page.proofs.Common.{Sets, texts_below}
use Rattle.tx_page.specs.OutageTexts.{unknown_texts}
use Rattle.tx_page.proofs.outages.write_unknown.Given as goal

abbrev pub invariant-loop-index : goal.invariant-loop-index
invariant-loop-index g l =
    Sets g.W.PageSink.seen l.initial.sink l.sink (texts_below l.index (unknown_texts l.risks))
