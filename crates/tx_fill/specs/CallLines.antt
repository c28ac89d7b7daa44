-- The lines that call and are called, in order.
use Rattle.std.specs.Prelude.{ℕ, Bool, ◌+◌, ◌-◌, ◌==◌, if◌then◌else◌, List, [], ◌++◌, length, map, drop, replicate, decimal}
use Rattle.std.specs.List.{flat_map, range_with_len, zip}
use Rattle.std.specs.Str.Parse.{digits_value}
use Rattle.tx_plan.specs.Plan.{Plan, home_of}
use Rattle.tx_plan.specs.declared.ids.Line.{Line}
use Rattle.tx_plan.specs.declared.range.LineRange.{LineRange}
use Rattle.tx_fill.specs.declared.call_lines.Whose.{Whose}
use Rattle.tx_fill.specs.declared.call_lines.Whose.TheVariants.{At, Of}

-- a number in so many figures, with zeros before it
abbrev pub figures : (width n : ℕ) → List ℕ
figures width n = replicate (width - length (decimal n)) 48 ++ decimal n

-- how many numbers are in a range
abbrev pub size_of : LineRange → ℕ
size_of r = (digits_value 10 r.high + 1) - digits_value 10 r.low

-- the line of its number at an index
abbrev pub line_in : LineRange → ℕ → Line
line_in r i =
    record { code = r.code; national = figures (length r.low) (digits_value 10 r.low + i) }

-- the lines at home at an exchange, or those of a code, are meant: whether those of a range are
abbrev pub is_meant : Plan → Whose → LineRange → Bool
is_meant p (At x) r = home_of p r.code == x
is_meant p (Of c) r = r.code == c

-- the lines of a range, if they are meant
abbrev pub lines_in : Plan → Whose → LineRange → List Line
lines_in p whose r =
    if is_meant p whose r then map (line_in r) (range_with_len 0 (size_of r)) else []

-- all lines that are meant
abbrev pub lines_of : Plan → Whose → List Line
lines_of p whose = flat_map (lines_in p whose) p.ranges

-- the lines of the code c that are called from x: at its home all but the first one, so no line calls
-- itself
abbrev pub called_from : Plan → (x c : ℕ) → List Line
called_from p x c = drop (if home_of p c == x then 1 else 0) (lines_of p (Of c))

-- the lines at home at x, each with the line of the code c that it calls: the first with the first
-- one, and so on, until there is no other one there or here
abbrev pub line_pairs : Plan → (x c : ℕ) → List (Line × Line)
line_pairs p x c = zip (lines_of p (At x)) (called_from p x c)
