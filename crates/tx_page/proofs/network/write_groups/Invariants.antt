use Rattle.tx_page.proofs.Common.{Sets, texts_below, group_texts}
use Rattle.tx_page.proofs.network.write_groups.Given as goal

abbrev pub invariant-loop-index : goal.invariant-loop-index
invariant-loop-index g l = Sets g.W.PageSink.seen l.initial.sink l.sink (texts_below l.index (group_texts l.plan))
