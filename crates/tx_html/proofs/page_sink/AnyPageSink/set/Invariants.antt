use Rattle.std.proofs.Common.{take}
use Rattle.std.specs.List.{flat_map}
use Rattle.tx_html.specs.Shows.{Sets, seen_by, part_texts}
use Rattle.tx_html.proofs.page_sink.AnyPageSink.set.Given as goal

abbrev pub invariant-loop-i : goal.invariant-loop-i
invariant-loop-i g l = Sets (seen_by g.W.Sink.taken g.W.Sink.failed) l.initial.self l.self (flat_map part_texts (take l.i l.parts))
