use Rattle.tx_text.proofs.Common.{take, flat_map, Puts}
use Rattle.tx_text.proofs.sink.put_parts.Given as goal

abbrev pub invariant-loop-i : goal.invariant-loop-i
invariant-loop-i g l = Puts g.W.Sink.taken g.W.Sink.failed l.initial.sink l.sink (flat_map (λ p. p.now) (take l.i l.parts))
