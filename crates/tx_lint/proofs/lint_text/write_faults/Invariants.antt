use Rattle.tx_lint.proofs.Common.{take, Ok, flat_map, WroteBy, Told, fault_line, told_held}
use Rattle.tx_lint.proofs.lint_text.write_faults.Given as goal

abbrev pub invariant-loop-i : goal.invariant-loop-i
invariant-loop-i g l =
    WroteBy (g.W.Sink.taken l.initial.sink) (g.W.Sink.taken l.sink) (g.W.Sink.failed l.initial.sink)
    (g.W.Sink.failed l.sink) (flat_map (λ (t : Told). fault_line l.file (told_held t)) (take l.i l.told)) (Ok tt)
