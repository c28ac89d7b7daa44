use Rattle.tx_cert.proofs.Common.{flat_map, range_with_len, line_written, Puts, code_lines}
use Rattle.tx_cert.proofs.cert_writer.write_code.Given as goal

abbrev pub invariant-loop-index : goal.invariant-loop-index
invariant-loop-index g l =
    Puts g.W.Sink.taken g.W.Sink.failed l.initial.sink l.sink (flat_map line_written (code_lines l.plan l.cert l.code (range_with_len 0 l.index)))
