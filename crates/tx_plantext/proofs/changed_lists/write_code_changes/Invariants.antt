use Rattle.tx_plantext.proofs.Common.{flat_map, range_with_len, Puts, change_line}
use Rattle.tx_plantext.proofs.changed_lists.write_code_changes.Given as goal

abbrev pub invariant-loop-index : goal.invariant-loop-index
invariant-loop-index g l = Puts g.W.Sink.taken g.W.Sink.failed l.initial.sink l.sink (flat_map (change_line l.before l.plan l.code) (range_with_len 0 l.index))
