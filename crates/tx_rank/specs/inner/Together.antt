-- The bounds of two things together.
use Rattle.std.specs.Prelude.{max, min, Option, Some, None}
use Rattle.tx_rank.specs.declared.bounds.Bounds.{Bounds}

-- the greater limit and the smaller spare number, if each has bounds
abbrev pub together : Option Bounds → Option Bounds → Option Bounds
together (Some a) (Some b) =
    Some (record { limit = max a.limit b.limit; spare = min a.spare b.spare })
together (Some a) None = None
together None other = None
