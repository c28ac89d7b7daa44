-- The lines of a code as one range, by the index of the code.
use Rattle.std.specs.Prelude.{ℕ, Bool, ◌&&◌, ◌==◌, List}
use Rattle.std.specs.Str.{bytes_eq}
use Rattle.tx_plan.specs.declared.range.LineRange.{LineRange}

-- a range is that of the lines of the code from low to high
abbrev pub is_range_of : ℕ → (low high : List ℕ) → LineRange → Bool
is_range_of code low high r = (r.code == code) && (bytes_eq r.low low && bytes_eq r.high high)
