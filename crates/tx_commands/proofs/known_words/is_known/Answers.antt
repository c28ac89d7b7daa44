use Rattle.tx_commands.proofs.Common.{◌∙◌, ap, list_any}
use Rattle.tx_commands.specs.Entries.{is_asked}
use Rattle.tx_commands.proofs.AllTables.{any_of}
use Rattle.tx_commands.proofs.known_words.is_known.Goals as goal

pub returns : goal.returns
returns c =
    let asked = is_asked c.args.line.now in
    c.asks_in_some.ensures ∙ any_of asked c.tables.result ∙ ap (list_any asked) c.tables.ensures
