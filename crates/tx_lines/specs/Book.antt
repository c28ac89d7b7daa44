-- What contracts see of a line book: the ranges, three sets of lines, and the room for lines with a
-- first status.
use Rattle.std.specs.Prelude.{ℕ, Bool, ◌||◌, if◌then◌else◌, List, refl}
use Rattle.std.specs.FinSet as set
use Rattle.std.specs.Coded.{Coded, code_by, coded×, coded_ℕ, coded_list}
use Rattle.tx_plan.specs.Plan.{no_plan}
use Rattle.tx_plan.specs.Lines.{is_line_at}
use Rattle.tx_plan.specs.Orders.{line_cmp, coded_line}
use Rattle.tx_plan.specs.declared.ids.Line.{Line}
use Rattle.tx_plan.specs.declared.range.LineRange.{LineRange}
use Rattle.tx_lines.specs.declared.book.LineAnswer.{LineAnswer}
use Rattle.tx_lines.specs.declared.book.LineAnswer.TheVariants.{NoLine, OutOfOrder, Away, Engaged, Free}

-- the ranges of a plan, the lines that are faulty, away and engaged, and room for further lines
pub record Book : Type 0 where
  pub ranges : List LineRange
  pub faulty : set.FinSet line_cmp
  pub away : set.FinSet line_cmp
  pub engaged : set.FinSet line_cmp
  pub room : ℕ

-- a code and a text are a line of these ranges
abbrev pub is_line_of : List LineRange → ℕ → List ℕ → Bool
is_line_of ranges = is_line_at (record no_plan { ranges = ranges })

-- the line is in one of the three sets
abbrev pub has_status : Book → Line → Bool
has_status b l = set.contains b.faulty l || (set.contains b.away l || set.contains b.engaged l)

-- the room that a mark takes: one, unless the line has a status already
abbrev pub room_taken : Book → Line → ℕ
room_taken b l = if has_status b l then 0 else 1

-- a set with a line put in or taken out
abbrev pub switched_set : Bool → set.FinSet line_cmp → Line → set.FinSet line_cmp
switched_set on s l = if on then set.insert s l else set.remove s l

-- The line is looked for in the sets of faulty, away and engaged lines, in this order; in none of
-- them it is free.
abbrev pub status_answer : Book → Line → LineAnswer
status_answer b l = if set.contains b.faulty l then OutOfOrder else if set.contains b.away l
    then Away else if set.contains b.engaged l then Engaged else Free l

-- what a home exchange finds for a code and a text
abbrev pub answer_of : Book → ℕ → List ℕ → LineAnswer
answer_of b code number = if is_line_of b.ranges code number
    then status_answer b (record { code = code; national = number }) else NoLine

-- a book as a tuple
abbrev pub coded_range : Coded LineRange
coded_range = code_by (ℕ × (List ℕ × List ℕ))
    (coded× coded_ℕ (coded× (coded_list coded_ℕ) (coded_list coded_ℕ))) (λ r.
    (r.code, (r.low, r.high))) (λ p. record { code = p.0; low = p.1.0; high = p.1.1 }) (λ _. refl)

-- the same of the whole book
abbrev pub coded_book : Coded Book
coded_book = code_by (List LineRange × (set.FinSet line_cmp
    × (set.FinSet line_cmp × (set.FinSet line_cmp × ℕ)))) (coded× (coded_list coded_range) (coded×
    (set.code coded_line) (coded× (set.code coded_line) (coded× (set.code coded_line) coded_ℕ))))
    (λ b. (b.ranges, (b.faulty, (b.away, (b.engaged, b.room))))) (λ p. record {
      ranges = p.0;
      faulty = p.1.0;
      away = p.1.1.0;
      engaged = p.1.1.1.0;
      room = p.1.1.1.1;
    }) (λ _. refl)
