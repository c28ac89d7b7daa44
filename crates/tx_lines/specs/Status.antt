-- Marks of lines.
use Rattle.std.specs.Prelude.{Bool, false, not, ◌&&◌}
use Rattle.tx_lines.specs.declared.book.Status.{Status}
use Rattle.tx_lines.specs.declared.book.Mark.{Mark}
use Rattle.tx_lines.specs.declared.book.Mark.TheVariants.{Faulty, Away, Engaged}

-- a status has a mark
abbrev pub has : Mark → Status → Bool
has Faulty s = s.faulty
has Away s = s.away
has Engaged s = s.engaged

-- a status with a mark set or taken away
abbrev pub with_mark : Mark → Bool → Status → Status
with_mark Faulty on s = record s { faulty = on }
with_mark Away on s = record s { away = on }
with_mark Engaged on s = record s { engaged = on }

-- a status has no mark
abbrev pub is_unmarked : Status → Bool
is_unmarked s = not s.faulty && (not s.away && not s.engaged)

-- no mark
abbrev pub no_mark : Status
no_mark = record { faulty = false; away = false; engaged = false }
