use Rattle.tx_commands.proofs.Common.{◌∙◌, option_map, ap, flat_map, told_text}
use Rattle.tx_commands.proofs.AllTables.{text_of}
use Rattle.tx_commands.proofs.explanation.write_explanation.Goals as goal

pub returns : goal.returns
returns g c =
    let text = told_text (option_map (λ l. l.now) c.args.line) in
    rw (text_of text c.tables.result ∙ ap (flat_map text) c.tables.ensures)
    at c.write_tables.ensures
