-- The codes and names of faults, as they are printed.
use Rattle.std.specs.Prelude.{ℕ, List, codes}
use Rattle.tx_text.specs.declared.text_fault.TextFault.{TextFault}
use Rattle.tx_text.specs.declared.text_fault.TextFault.TheVariants.{LineTooLong, BadByte, NoMemory}
use Rattle.tx_text.specs.declared.frame.FrameFault.{FrameFault}
use Rattle.tx_text.specs.declared.frame.FrameFault.TheVariants.{LineTooLong as too_long, BadByte as bad_byte, NoMemory as no_memory, NoHeader as no_header, NoEnd as no_end, AfterEnd as after_end, Read as read}

-- a code, and a name
abbrev pub Row : Type 0
Row = List ℕ × List ℕ

-- the faults of the bytes of a line, which are those of every text
abbrev pub text_row : TextFault → Row
text_row LineTooLong = (codes "X1", codes "LineTooLong")
text_row BadByte = (codes "X2", codes "BadByte")
text_row NoMemory = (codes "X3", codes "NoMemory")

-- the faults of a text, by the codes that its kind has for no header, no END, words after END and a
-- failed read
abbrev pub frame_row : (header end after failed : List ℕ) → FrameFault → Row
frame_row header end after failed too_long = text_row LineTooLong
frame_row header end after failed bad_byte = text_row BadByte
frame_row header end after failed no_memory = text_row NoMemory
frame_row header end after failed no_header = (header, codes "NoHeader")
frame_row header end after failed no_end = (end, codes "NoEnd")
frame_row header end after failed after_end = (after, codes "AfterEnd")
frame_row header end after failed read = (failed, codes "ReadFault")
