use Rattle.tx_audit.proofs.Common.{take, flat_map, event_text}
use Rattle.tx_text.specs.Puts.{Puts}
use Rattle.tx_audit.proofs.script_writer.write_events.Given as goal

abbrev pub invariant-loop-i : goal.invariant-loop-i
invariant-loop-i g l = Puts g.W.Sink.taken g.W.Sink.failed l.initial.sink l.sink (flat_map (event_text l.plan) (take l.i l.events))
