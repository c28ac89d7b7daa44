-- What is left of the lines of a text.
use Rattle.std.specs.Prelude.{◌+◌, ◌^◌, ◌<◌, ◌≤◌, List, Result, length}
use Rattle.tx_text.specs.declared.text_fault.TextFault.{TextFault}
use Rattle.tx_text.specs.Text.{Line, lines_from, checked}
use Rattle.tx_text.specs.declared.lines.Lines.TheInside.{Inside}

-- The lines that are left, up to the first fault.
abbrev pub items_left : Inside → List (Result Line TextFault)
items_left a = checked (lines_from (a.number + 1) a.start a.rest.now)

-- What is true of the fields: the counts fit.
pub record IsLines (a : Inside) : Type 0 where
  pub number : a.number ≤ a.start
  pub index : a.start + length a.rest.now < 2 ^ 63
