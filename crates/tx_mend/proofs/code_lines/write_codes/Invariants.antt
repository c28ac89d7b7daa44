use Rattle.tx_mend.proofs.Common.{flat_map, range_with_len, Puts, code_line}
use Rattle.tx_mend.proofs.code_lines.write_codes.Given as goal

abbrev pub invariant-loop-index : goal.invariant-loop-index
invariant-loop-index g l = Puts g.W.Sink.taken g.W.Sink.failed l.initial.sink l.sink (flat_map (code_line l.plan l.unserved l.missing) (range_with_len 0 l.index))
