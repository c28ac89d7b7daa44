use Rattle.std.proofs.Common.{arith}
use Rattle.std.proofs.lemmas.Grind.{common_steps}
use Rattle.tx_trie.proofs.codes_writer.write_pair.Goals as goal

pub returns : goal.returns
returns g c = grind (arith, common_steps)
