use Rattle.tx_text.proofs.Common.{length, Puts}
use Rattle.tx_text.proofs.sink.put_bytes.Given as goal

abbrev pub invariant-loop-rest : goal.invariant-loop-rest
invariant-loop-rest g l =
    (end : g.row.W.Denot) → Puts g.W.Sink.taken g.W.Sink.failed l.sink end l.rest → Puts g.W.Sink.taken g.W.Sink.failed l.initial.sink end l.fn.bytes

abbrev pub decreases-loop-rest : goal.decreases-loop-rest
decreases-loop-rest g l = length l.rest
