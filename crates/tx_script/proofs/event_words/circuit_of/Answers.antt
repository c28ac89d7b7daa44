use Rattle.std.proofs.Common.{rules}
use Rattle.tx_script.proofs.event_words.circuit_of.Goals as goal

pub returns-in_err-group-2 : goal.returns-in_err-group-2
returns-in_err-group-2 c = search rules
