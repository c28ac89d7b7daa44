-- Numbers of a plan that may be worse than those of another one.
use Rattle.std.specs.Prelude.{ℕ, max, Bool, true, false, not, ◌&&◌, ◌||◌, ◌==◌, nat_lt, if◌then◌else◌, List, length, fold, find, Option, None, Some, is_some, option_map, option_and_then, count_by, sum_by}
use Rattle.std.specs.List.{list_any, range_with_len}
use Rattle.tx_plan.specs.Plan.{Plan, home_of}
use Rattle.tx_plan.specs.declared.range.LineRange.{LineRange}
use Rattle.tx_rank.specs.declared.bounds.Bounds.{Bounds}
use Rattle.tx_risk.specs.Outages.{start_at}
use Rattle.tx_risk.specs.declared.cut.Cut.{Cut}
use Rattle.tx_risk.specs.declared.cut.Outcome.{Outcome}
use Rattle.tx_risk_report.specs.OutageReport.{cut_off, astray}
use Rattle.tx_page_change.specs.Counts.{range_lines}
use Rattle.tx_page_change.specs.declared.outlook.Outlook.{Outlook}
use Rattle.tx_page_change.specs.declared.numbers.Numbers.{Numbers}

-- how many lines a range adds to those of an exchange
abbrev pub home_lines : Plan → (x : ℕ) → LineRange → ℕ
home_lines p x r = if home_of p r.code == x then range_lines r else 0

-- how many lines an exchange has
abbrev pub lines_at : Plan → ℕ → ℕ
lines_at p x = sum_by (home_lines p x) p.ranges

-- a number, if there is a grade
abbrev pub if_graded : Option Bounds → ℕ → Option ℕ
if_graded grade n = option_map (λ b. n) grade

-- calls for some code are cut off that start at x
abbrev pub is_cut_at : List Cut → ℕ → Bool
is_cut_at cuts x = list_any (λ c. not c.stray && (start_at c == x)) cuts

-- so many lines of an exchange are then cut off
abbrev pub cut_lines_at : Plan → List Cut → ℕ → ℕ
cut_lines_at p cuts x = if is_cut_at cuts x then lines_at p x else 0

module _ {A : Type 0} where
  -- how many lines an outage cuts off, from some code
  abbrev pub lines_cut : Plan → Outcome A → ℕ
  lines_cut p o = sum_by (cut_lines_at p o.cuts.items) (range_with_len 0 (length p.exchanges))

  -- how many lines the worst of some outages cuts off
  abbrev pub most_cut : Plan → List (Outcome A) → ℕ
  most_cut p outcomes = fold (λ most o. max most (lines_cut p o)) 0 outcomes

  -- an outage cuts off so many lines, and some
  abbrev pub cuts_off : Plan → (lines : ℕ) → Outcome A → Bool
  cuts_off p lines o = nat_lt 0 lines && (lines_cut p o == lines)

  -- an outage cuts somebody off
  abbrev pub is_cutting : Outcome A → Bool
  is_cutting o = nat_lt 0 (cut_off o.cuts.items)

  -- an outage leads somebody astray
  abbrev pub is_straying : Outcome A → Bool
  is_straying o = nat_lt 0 (astray o.cuts.items)

  -- the numbers of a plan: none without a grade
  abbrev pub numbers_of : Outlook A → Numbers
  numbers_of o = record {
    limit = option_map (λ b. b.limit) o.grade.now.plan;
    spare = option_map (λ b. b.spare) o.grade.now.plan;
    cutting = if_graded o.grade.now.plan (count_by is_cutting o.outcomes.now);
    straying = if_graded o.grade.now.plan (count_by is_straying o.outcomes.now);
    lines = if_graded o.grade.now.plan (most_cut o.plan.now o.outcomes.now);
  }

  -- the worst outage of a plan, if one cuts off some lines
  abbrev pub worst_of : Outlook A → Option (Outcome A)
  worst_of o = option_and_then (λ lines. find (cuts_off o.plan.now lines) o.outcomes.now)
      (numbers_of o).lines

-- A number is worse than the one before: it is greater where more is worse, and else less. None is
-- worse than any.
abbrev pub is_worse_number : (more : Bool) → (old new : Option ℕ) → Bool
is_worse_number more old None = is_some old
is_worse_number more None (Some n) = false
is_worse_number true (Some m) (Some n) = nat_lt m n
is_worse_number false (Some m) (Some n) = nat_lt n m

-- one of the numbers is
abbrev pub are_worse : (old new : Numbers) → Bool
are_worse old new = is_worse_number true old.limit new.limit
    || (is_worse_number false old.spare new.spare
    || (is_worse_number true old.cutting new.cutting
    || (is_worse_number true old.straying new.straying
    || is_worse_number true old.lines new.lines)))
