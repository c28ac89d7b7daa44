use Rattle.tx_lint.proofs.Common.{take, flat_map, escaped_byte}
use Rattle.tx_text.specs.Puts.{Puts}
use Rattle.tx_lint.proofs.escaped.write_escaped.Given as goal

abbrev pub invariant-loop-i : goal.invariant-loop-i
invariant-loop-i g l =
    Puts g.W.Sink.taken g.W.Sink.failed l.initial.sink l.sink (flat_map escaped_byte (take l.i l.text))
