-- What is left of the lines of a text.
use Rattle.std.specs.Prelude.{◌+◌, List, Result}
use Rattle.tx_text.specs.declared.text_fault.TextFault.{TextFault}
use Rattle.tx_text.specs.Text.{Line, lines_from, checked}
use Rattle.tx_text.specs.declared.lines.Left.{Left}

-- The lines of what is left, up to the first fault.
abbrev pub items_of : Left → List (Result Line TextFault)
items_of a = checked (lines_from (a.number + 1) a.start a.rest.now)
