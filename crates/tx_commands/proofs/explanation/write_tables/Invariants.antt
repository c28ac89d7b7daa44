use Rattle.tx_commands.proofs.Common.{ℕ, List, take, option_map, Ok, Bor, flat_map, WroteBy, texts, told_text}
use Rattle.tx_commands.proofs.AllTables.{Entries}
use Rattle.tx_commands.proofs.explanation.write_tables.Given as goal

abbrev pub invariant-loop-i : goal.invariant-loop-i
invariant-loop-i g l =
    let text : Bor Entries → List ℕ =
    λ t. flat_map (λ e. told_text (option_map (λ l. l.now) l.line) (texts e)) t.now in
    WroteBy (g.W.Sink.taken l.initial.sink) (g.W.Sink.taken l.sink)
    (g.W.Sink.failed l.initial.sink) (g.W.Sink.failed l.sink)
    (flat_map text (take l.i l.tables)) (Ok tt)
