-- A line of the code as a line of a text.
use Rattle.std.specs.Prelude.{Result, Ok, Err}
use Rattle.tx_text.specs.declared.text_fault.TextFault.{TextFault}
use Rattle.tx_text.specs.Text.{Line}
use Rattle.tx_text.specs.declared.line.TextLine.{TextLine}

-- A line of the code as one of the text.
abbrev pub line_of : TextLine → Line
line_of l = record { number = l.number; start = l.start; bytes = l.text.now; finished = l.finished }

-- The same of a line or its fault.
abbrev pub item_of : Result TextLine TextFault → Result Line TextFault
item_of (Ok l) = Ok (line_of l)
item_of (Err x) = Err x
