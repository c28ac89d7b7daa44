use Rattle.std.proofs.Common.{◌∙◌}
use Rattle.tx_commands.proofs.Named.{among}
use Rattle.tx_commands.proofs.clashes.is_among.Goals as goal

pub returns : goal.returns
returns c = c.contains.ensures.value ∙ among c.args.files.now _
