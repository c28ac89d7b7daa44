use Rattle.tx_page.proofs.Common.{Sets, texts_below, home_texts}
use Rattle.tx_page.proofs.network.write_codes.Given as goal

abbrev pub invariant-loop-index : goal.invariant-loop-index
invariant-loop-index g l = Sets g.W.PageSink.seen l.initial.sink l.sink (texts_below l.index (home_texts l.plan l.exchange))
