use Rattle.std.proofs.Common.{rules}
use Rattle.tx_text.proofs.text_fault.TextFault.code_and_name.Goals as goal

pub returns-in-BadByte : goal.returns-in-BadByte
returns-in-BadByte c = search rules
