-- What the kept statuses of lines mean as sets.
use Rattle.std.specs.Prelude.{◌≡◌, Bool, false, Option, Some, None, List, filter, unwrap_or, if◌then◌else◌}
use Rattle.std.specs.Option.{option_map_or}
use Rattle.std.specs.FinSet as set
use Rattle.indexmap.specs.IndexMap as index
use Rattle.indexmap.specs.IndexMap.{IndexMap}
use Rattle.tx_plan.specs.Orders.{same_line, line_cmp}
use Rattle.tx_plan.specs.declared.ids.Line.{Line}
use Rattle.tx_plan.specs.declared.range.LineRange.{LineRange}
use Rattle.tx_lines.specs.Book.{Book, switched_set}
use Rattle.tx_lines.specs.Status.{has, is_unmarked, no_mark}
use Rattle.tx_lines.specs.declared.book.Status.{Status}
use Rattle.tx_lines.specs.declared.book.Mark.{Mark}
use Rattle.tx_lines.specs.declared.book.Mark.TheVariants.{Faulty, Away, Engaged}

-- the book with a mark of the line set or taken away
abbrev pub with_mark_of : Line → Mark → Bool → Book → Book
with_mark_of l Faulty on b = record b { faulty = switched_set on b.faulty l }
with_mark_of l Away on b = record b { away = switched_set on b.away l }
with_mark_of l Engaged on b = record b { engaged = switched_set on b.engaged l }

-- what is kept of a line: its status, if it has a mark
abbrev pub kept_status : Status → Option Status
kept_status s = if is_unmarked s then None else Some s

module _ {S : Type 0} where
  -- what is known of a line
  abbrev pub status_of : IndexMap Line Status S → Line → Status
  status_of m l = unwrap_or (index.get same_line m l) no_mark

  -- each line that is kept has a mark
  abbrev pub AllMarked : IndexMap Line Status S → Type 0
  AllMarked m = (l : Line) (s : Status) → index.get same_line m l ≡ Some s → is_unmarked s ≡ false

  -- the line has a status that passes the test
  abbrev pub passes : (Status → Bool) → IndexMap Line Status S → Line → Bool
  passes test m l = option_map_or test (index.get same_line m l) false

  -- the lines whose status passes the test
  abbrev pub with_status : (Status → Bool) → IndexMap Line Status S → set.FinSet line_cmp
  with_status test m = set.from_list (filter (passes test m) (index.keys m))

  -- the book of ranges and of a map from lines to statuses
  abbrev pub book_of : List LineRange → IndexMap Line Status S → Book
  book_of ranges m = record {
    ranges = ranges;
    faulty = with_status (has Faulty) m;
    away = with_status (has Away) m;
    engaged = with_status (has Engaged) m;
    room = index.spare m;
  }
