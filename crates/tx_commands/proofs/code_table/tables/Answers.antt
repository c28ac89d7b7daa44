use Rattle.std.proofs.Common.{refl}
use Rattle.tx_commands.specs.Entries.{table}
use Rattle.tx_commands.proofs.code_table.tables.Goals as goal

pub returns : goal.returns
unfolding table
returns c = refl
