-- What the sets of lines contain, before and after a status is written.
use Rattle.std.proofs.Common.{◌≡◌, ◌+◌, ◌<◌, ◌≤◌, arith, Bool, true, false, not, ◌||◌, ◌&&◌, cond, List, map, Option, Some, None, refl, sym, ap, subst, ◌∙◌}
use Rattle.std.proofs.Math.Bool.{and-true}
use Rattle.tx_lines.proofs.Common.{and_parts, false≢true, list_any, Line, LineRange, Status, Faulty, Away, Engaged}
use Rattle.std.proofs.lemmas.Map.Made.{is_some-lookup}
use Rattle.std.proofs.lemmas.Map.Views.{any-filter_same}
use Rattle.std.specs.Prelude.{filter, is_some, unwrap_or, if◌then◌else◌}
use Rattle.std.specs.Option.{option_map_or}
use Rattle.std.specs.FinSet as set
use Rattle.std.specs.Map.{lookup}
use Rattle.indexmap.specs.IndexMap as index
use Rattle.indexmap.specs.IndexMap.{IndexMap}
use Rattle.tx_plan.specs.Orders.{same_line, line_cmp}
use Rattle.tx_plan.proofs.Named.{lines_total, exact_lines, line_tie, in_lines, same_line-is, same_line_equiv}
use Rattle.tx_lines.specs.declared.book.Mark.{Mark}
use Rattle.tx_lines.specs.Status.{has, with_mark, is_unmarked, no_mark}
use Rattle.tx_lines.specs.Book.{Book, has_status, room_taken, switched_set}
use Rattle.tx_lines.specs.inner.Kept.{passes, with_status, book_of, with_mark_of, status_of, kept_status}

contains-switched : (on : Bool) (s : set.FinSet line_cmp) (line l : Line) → set.contains (switched_set on s line) l ≡ cond (same_line line l) on (set.contains s l)
contains-switched true s line l = set.contains-insert lines_total s line l ∙ ap (λ b. b || set.contains s l) (line_tie l line) ∙ by (same_line line l)
  where
    by : (b : Bool) → (b || set.contains s l) ≡ cond b true (set.contains s l)
    by true = refl
    by false = refl
contains-switched false s line l = set.contains-remove lines_total s line l ∙ ap (λ b. not b && set.contains s l) (line_tie l line) ∙ by (same_line line l)
  where
    by : (b : Bool) → (not b && set.contains s l) ≡ cond b false (set.contains s l)
    by true = refl
    by false = refl

-- the lines with a mark
abbrev pub marked : Mark → Book → set.FinSet line_cmp
marked Faulty b = b.faulty
marked Away b = b.away
marked Engaged b = b.engaged

unmarked_none : (k : Mark) → has k no_mark ≡ false
unmarked_none Faulty = refl
unmarked_none Away = refl
unmarked_none Engaged = refl

unset : (b : Bool) → not b ≡ true → b ≡ false
unset true h = absurd (false≢true h)
unset false h = refl

-- what is kept of a status has its marks
kept_has : (s : Status) (k : Mark) → option_map_or (has k) (kept_status s) false ≡ has k s
kept_has s k = by (is_unmarked s) refl k
  where
    by : (b : Bool) → is_unmarked s ≡ b → (k : Mark) → option_map_or (has k) (if b then None else Some s) false ≡ has k s
    by false e k = refl
    by true e Faulty = let p = and_parts (not s.faulty) (not s.away && not s.engaged) e in sym (unset s.faulty p.0)
    by true e Away = let p = and_parts (not s.faulty) (not s.away && not s.engaged) e in let q = and_parts (not s.away) (not s.engaged) p.1 in sym (unset s.away q.0)
    by true e Engaged = let p = and_parts (not s.faulty) (not s.away && not s.engaged) e in let q = and_parts (not s.away) (not s.engaged) p.1 in sym (unset s.engaged q.1)

module _ {S : Type 0} where
  contains_status : (test : Status → Bool) (m : IndexMap Line Status S) (l : Line) → set.contains (with_status test m) l ≡ passes test m l
  contains_status test m l =
      in_lines (filter (passes test m) (index.keys m)) l
      ∙ any-filter_same (λ k. same_line k l) (passes test m) (passes test m l) (λ k e. ap (passes test m) (same_line-is k l e)) (index.keys m)
      ∙ (λ i. passes test m l && list_any (λ k. same_line_equiv.symm k l i) (index.keys m))
      ∙ ap (λ b. passes test m l && b) (sym (is_some-lookup (same_line l) m.entries))
      ∙ by (index.get same_line m l)
    where
      by : (o : Option Status) → (option_map_or test o false && is_some o) ≡ option_map_or test o false
      by None = refl
      by (Some s) = and-true (test s)

  -- the same lines are kept
  pub book_along : (ranges : List LineRange) (m n : IndexMap Line Status S) → n.entries ≡ m.entries → book_of ranges n ≡ record (book_of ranges m) { room = index.spare n }
  book_along ranges m n e = λ i. record { ranges = ranges; faulty = along (has Faulty) (e i); away = along (has Away) (e i); engaged = along (has Engaged) (e i); room = index.spare n }
    where
      along : (Status → Bool) → List (Line × Status) → set.FinSet line_cmp
      along test es = set.from_list (filter (λ l. option_map_or test (lookup (same_line l) es) false) (map (λ p. p.0) es))

  -- what is kept of a line has its marks
  pub marks_of : (ranges : List LineRange) (m : IndexMap Line Status S) (b : Book) (line : Line) (s : Status) → book_of ranges m ≡ b → s ≡ unwrap_or (index.get same_line m line) no_mark → (k : Mark) → has k s ≡ set.contains (marked k b) line
  marks_of ranges m b line s view is k = ap (has k) is ∙ by (index.get same_line m line) ∙ sym (contains_status (has k) m line) ∙ of_mark k
    where
      by : (o : Option Status) → has k (unwrap_or o no_mark) ≡ option_map_or (has k) o false
      by None = unmarked_none k
      by (Some s) = refl

      of_mark : (k : Mark) → set.contains (with_status (has k) m) line ≡ set.contains (marked k b) line
      of_mark Faulty = ap (λ (v : Book). set.contains v.faulty line) view
      of_mark Away = ap (λ (v : Book). set.contains v.away line) view
      of_mark Engaged = ap (λ (v : Book). set.contains v.engaged line) view

  -- another status is kept of a line, or none
  module _ (m n : IndexMap Line Status S) (line : Line) (w : Option Status) (at : (q : Line) → index.get same_line n q ≡ cond (same_line line q) w (index.get same_line m q)) where
    contains_after : (test : Status → Bool) (l : Line) → set.contains (with_status test n) l ≡ cond (same_line line l) (option_map_or test w false) (set.contains (with_status test m) l)
    contains_after test l =
        contains_status test n l ∙ ap (λ o. option_map_or test o false) (at l)
        ∙ (elim (same_line line l) as (λ b. option_map_or test (cond b w (index.get same_line m l)) false ≡ cond b (option_map_or test w false) (set.contains (with_status test m) l)) [ true ↦ refl | false ↦ sym (contains_status test m l) ])

    set_stays : (test : Status → Bool) → option_map_or test w false ≡ set.contains (with_status test m) line → with_status test n ≡ with_status test m
    set_stays test same = set.same_set lines_total exact_lines _ _ (λ l. contains_after test l ∙ by l (same_line line l) refl)
      where
        by : (l : Line) (b : Bool) → same_line line l ≡ b → cond b (option_map_or test w false) (set.contains (with_status test m) l) ≡ set.contains (with_status test m) l
        by l true e = same ∙ ap (set.contains (with_status test m)) (same_line-is line l e)
        by l false e = refl

    set_switched : (test : Status → Bool) (on : Bool) → option_map_or test w false ≡ on → with_status test n ≡ switched_set on (with_status test m) line
    set_switched test on is = set.same_set lines_total exact_lines _ _ (λ l.
        contains_after test l ∙ ap (λ b. cond (same_line line l) b (set.contains (with_status test m) l)) is ∙ sym (contains-switched on (with_status test m) line l))

    -- one mark of the line is set or taken away, and its others stay
    book_marked : (ranges : List LineRange) (old : Status) → ((k : Mark) → has k old ≡ set.contains (with_status (has k) m) line) → (mark : Mark) (on : Bool)
        → ((k : Mark) → option_map_or (has k) w false ≡ has k (with_mark mark on old)) → book_of ranges n ≡ record (with_mark_of line mark on (book_of ranges m)) { room = index.spare n }
    book_marked ranges old was Faulty on now = λ i. record { ranges = ranges; faulty = set_switched (has Faulty) on (now Faulty) i; away = set_stays (has Away) (now Away ∙ was Away) i; engaged = set_stays (has Engaged) (now Engaged ∙ was Engaged) i; room = index.spare n }
    book_marked ranges old was Away on now = λ i. record { ranges = ranges; faulty = set_stays (has Faulty) (now Faulty ∙ was Faulty) i; away = set_switched (has Away) on (now Away) i; engaged = set_stays (has Engaged) (now Engaged ∙ was Engaged) i; room = index.spare n }
    book_marked ranges old was Engaged on now = λ i. record { ranges = ranges; faulty = set_stays (has Faulty) (now Faulty ∙ was Faulty) i; away = set_stays (has Away) (now Away ∙ was Away) i; engaged = set_switched (has Engaged) on (now Engaged) i; room = index.spare n }

  -- A MARK OF A LINE IS SET OR TAKEN AWAY
  module _ (ranges : List LineRange) (m n : IndexMap Line Status S) (b : Book) (view : book_of ranges m ≡ b) (line : Line) (mark : Mark) where
    was : (k : Mark) → has k (status_of m line) ≡ set.contains (with_status (has k) m) line
    was k = by (index.get same_line m line) ∙ sym (contains_status (has k) m line)
      where
        by : (o : Option Status) → has k (unwrap_or o no_mark) ≡ option_map_or (has k) o false
        by None = unmarked_none k
        by (Some s) = refl

    module _ (at : (q : Line) → index.get same_line n q ≡ cond (same_line line q) (Some (with_mark mark true (status_of m line))) (index.get same_line m q)) where
      pub book_added : book_of ranges n ≡ record (with_mark_of line mark true b) { room = index.spare n }
      book_added =
          book_marked m n line (Some (with_mark mark true (status_of m line))) at ranges (status_of m line) was mark true (λ k. refl)
          ∙ ap (λ (v : Book). record (with_mark_of line mark true v) { room = index.spare n }) view

    module _ (at : (q : Line) → index.get same_line n q ≡ cond (same_line line q) (kept_status (with_mark mark false (status_of m line))) (index.get same_line m q)) where
      pub book_taken : book_of ranges n ≡ record (with_mark_of line mark false b) { room = index.spare n }
      book_taken =
          book_marked m n line (kept_status (with_mark mark false (status_of m line))) at ranges (status_of m line) was mark false (kept_has (with_mark mark false (status_of m line)))
          ∙ ap (λ (v : Book). record (with_mark_of line mark false v) { room = index.spare n }) view

    -- a line that is not kept has no status
    no_status : index.get same_line m line ≡ None → has_status b line ≡ false
    no_status none = subst (λ (v : Book). has_status v line ≡ false) view (let f : (k : Mark) → set.contains (with_status (has k) m) line ≡ false = λ k. contains_status (has k) m line ∙ ap (λ o. option_map_or (has k) o false) none in
        λ i. f Faulty i || (f Away i || f Engaged i))

    pub room_there : (has_status b line ≡ false → 0 < b.room) → index.get same_line m line ≡ None → 0 < index.spare m
    room_there given none = subst (λ (v : Book). 0 < v.room) (sym view) (given (no_status none))

    pub room_after : index.spare m ≤ index.spare n + (if is_some (index.get same_line m line) then 0 else 1) → b.room ≤ index.spare n + room_taken b line
    room_after h = subst (λ (v : Book). v.room ≤ index.spare n + room_taken b line) view (by (index.get same_line m line) refl h)
      where
        by : (o : Option Status) → index.get same_line m line ≡ o → index.spare m ≤ index.spare n + (if is_some o then 0 else 1) → index.spare m ≤ index.spare n + room_taken b line
        by (Some s) e h = omega (arith, h)
        by None e h = subst (λ z. index.spare m ≤ index.spare n + z) (sym (ap (λ z. if z then 0 else 1) (no_status e))) h
