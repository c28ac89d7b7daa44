use Rattle.tx_cert.proofs.Common.{length, flat_map, range_with_len, line_written, Puts, code_lines}
use Rattle.tx_cert.proofs.cert_writer.write_ranks.Given as goal

abbrev pub invariant-loop-index : goal.invariant-loop-index
invariant-loop-index g l =
    Puts g.W.Sink.taken g.W.Sink.failed l.initial.sink l.sink (flat_map line_written (flat_map (λ c. code_lines l.plan l.cert c (range_with_len 0 (length l.plan.exchanges))) (range_with_len 0 l.index)))
