use Rattle.std.proofs.Common.{rules}
use Rattle.tx_plantext.proofs.fault.code_and_name.Goals as goal

pub returns-in-Word-UnknownWord : goal.returns-in-Word-UnknownWord
returns-in-Word-UnknownWord c = search rules
