use Rattle.tx_text.proofs.Common.{◌≡◌, take, list_all, is_text_byte}
use Rattle.tx_text.proofs.reader.are_text.Given as goal

abbrev pub invariant-loop-byte : goal.invariant-loop-byte
invariant-loop-byte l = l.all ≡ list_all is_text_byte (take l.byte-index l.bytes)
