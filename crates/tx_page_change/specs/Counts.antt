-- How much a plan has.
use Rattle.std.specs.Prelude.{ℕ, ◌+◌, ◌-◌, ◌==◌, if◌then◌else◌, length, count_by, sum_by}
use Rattle.std.specs.List.{range_with_len}
use Rattle.std.specs.Str.Parse.{digits_value}
use Rattle.tx_plan.specs.Plan.{Plan}
use Rattle.tx_plan.specs.Circuits.{count_of}
use Rattle.tx_plan.specs.Routes.{is_origin}
use Rattle.tx_plan.specs.declared.range.LineRange.{LineRange}

-- how many lines a range has
abbrev pub range_lines : LineRange → ℕ
range_lines r = (digits_value 10 r.high - digits_value 10 r.low) + 1

-- how many lines a range adds to those of a code
abbrev pub code_lines : ℕ → LineRange → ℕ
code_lines c r = if r.code == c then range_lines r else 0

-- how many lines a code has
abbrev pub lines_of : Plan → ℕ → ℕ
lines_of p c = sum_by (code_lines c) p.ranges

-- how many lines a plan has
abbrev pub lines_in : Plan → ℕ
lines_in p = sum_by range_lines p.ranges

-- at how many exchanges calls start
abbrev pub origins_in : Plan → ℕ
origins_in p = count_by (is_origin p) (range_with_len 0 (length p.exchanges))

-- how many circuits a plan has
abbrev pub circuits_in : Plan → ℕ
circuits_in p = sum_by (count_of p) (range_with_len 0 (length p.groups))
