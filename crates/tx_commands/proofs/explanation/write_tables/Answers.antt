use Rattle.tx_commands.proofs.Common.{ℕ, List, option_map, Bor, flat_map, get_or_default, texts_stopped, texts, told_text}
use Rattle.tx_commands.proofs.AllTables.{Entries}
use Rattle.tx_commands.proofs.explanation.write_tables.Goals as goal

pub returns-in_err-write_entries : goal.returns-in_err-write_entries
returns-in_err-write_entries g c =
    let text : Bor Entries → List ℕ =
    λ t. flat_map (λ e. told_text (option_map (λ l. l.now) c.args.line) (texts e)) t.now in
    let failed = c.in_err-write_entries in
    texts_stopped text c.args.tables.now c.loop-i.i _ _ _ _ _ _ _ _ failed.field-0.0
    c.loop-i-test.true (get_or_default _ _ _ _ c.loop-i-test.true) c.loop-i.invariant
    failed.ensures c.from_residual.ensures.0
