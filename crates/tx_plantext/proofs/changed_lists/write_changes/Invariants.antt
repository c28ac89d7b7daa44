use Rattle.tx_plantext.proofs.Common.{flat_map, range_with_len, Puts, code_changes}
use Rattle.tx_plantext.proofs.changed_lists.write_changes.Given as goal

abbrev pub invariant-loop-index : goal.invariant-loop-index
invariant-loop-index g l = Puts g.W.Sink.taken g.W.Sink.failed l.initial.sink l.sink (flat_map (code_changes l.before l.plan) (range_with_len 0 l.index))
