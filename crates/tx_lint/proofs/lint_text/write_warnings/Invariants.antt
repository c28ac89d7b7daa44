use Rattle.tx_lint.proofs.Common.{take, Ok, flat_map, WroteBy, warning_line}
use Rattle.tx_lint.proofs.lint_text.write_warnings.Given as goal

abbrev pub invariant-loop-i : goal.invariant-loop-i
invariant-loop-i g l =
    WroteBy (g.W.Sink.taken l.initial.sink) (g.W.Sink.taken l.sink) (g.W.Sink.failed l.initial.sink)
    (g.W.Sink.failed l.sink) (flat_map (warning_line l.file l.plan l.risks) (take l.i l.warnings)) (Ok tt)
