-- Where a plan ends, byte by byte.
use Rattle.std.specs.Prelude.{ℕ, suc, ◌==◌, Bool, true, false, List, [], ◌∷◌, if◌then◌else◌}
use Rattle.tx_text.specs.Text.{is_lf}
use Rattle.tx_text.specs.Words.{is_blank, is_hash}
use Rattle.tx_jobs.specs.declared.seen.Seen.{Seen}
use Rattle.tx_jobs.specs.declared.seen.Seen.TheVariants.{Blanks, E, En, End, Comment, Cr, Other, Over}

-- with one byte more of the line, which is no LF
abbrev pub in_line : Seen → ℕ → Seen
in_line Blanks b = if is_blank b then Blanks else if b == 69 then E else Other
in_line E b = if b == 78 then En else Other
in_line En b = if b == 68 then End else Other
in_line End b = if is_blank b then End else if is_hash b
    then Comment else if b == 13 then Cr else Other
in_line Comment b = Comment
in_line Cr b = Other
in_line Other b = Other
in_line Over b = Over

-- the one word of the line is END, if an LF comes next
abbrev pub is_end_seen : Seen → Bool
is_end_seen End = true
is_end_seen Comment = true
is_end_seen Cr = true
is_end_seen seen = false

-- the plan is over
abbrev pub is_over : Seen → Bool
is_over Over = true
is_over seen = false

-- with the LF
abbrev pub at_lf : Seen → Seen
at_lf End = Over
at_lf Comment = Over
at_lf Cr = Over
at_lf Over = Over
at_lf seen = Blanks

-- with one byte more
abbrev pub after : Seen → ℕ → Seen
after seen b = if is_lf b then at_lf seen else in_line seen b

-- with all bytes of a line
unfoldable pub line_seen : Seen → List ℕ → Seen
line_seen seen [] = seen
line_seen seen (b ∷ bs) = line_seen (in_line seen b) bs

-- how many of the bytes that come are of the plan
unfoldable pub end_from : Seen → List ℕ → ℕ
end_from seen [] = 0
end_from seen (b ∷ bs) = if is_over seen then 0 else suc (end_from (after seen b) bs)
