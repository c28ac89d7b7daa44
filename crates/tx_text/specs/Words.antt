-- The words of a line, and what a word spells.
use Rattle.std.specs.Prelude.{ℕ, ◌==◌, Bool, true, false, ◌&&◌, ◌||◌, not, nat_le, List, [], ◌∷◌, Option, None, Some, length, filter, slice_index, if◌then◌else◌}
use Rattle.std.specs.List.{slice_split, list_all, list_any}
use Rattle.std.specs.Str.{bytes_eq}
use Rattle.std.specs.Str.Parse.{digits_value}

-- a space or a tab
abbrev pub is_blank : ℕ → Bool
is_blank b = b == 32 || b == 9

-- '#' begins a comment
abbrev pub is_hash : ℕ → Bool
is_hash b = b == 35

-- Some byte is there.
abbrev pub is_filled : List ℕ → Bool
is_filled [] = false
is_filled (b ∷ bs) = true

-- what is before the first element that passes
abbrev pub before : (ℕ → Bool) → List ℕ → List ℕ
before p [] = []
before p (b ∷ bs) = if p b then [] else b ∷ before p bs

-- the words of a line: what is between blanks, up to the comment
unfoldable pub words_of : List ℕ → List (List ℕ)
words_of line = filter is_filled (slice_split is_blank (before is_hash line))

-- no word is there twice
abbrev pub none_twice : List (List ℕ) → Bool
none_twice [] = true
none_twice (w ∷ ws) = not (list_any (bytes_eq w) ws) && none_twice ws

-- 0 to 9
abbrev pub is_figure : ℕ → Bool
is_figure b = nat_le 48 b && nat_le b 57

-- A to Z
abbrev pub is_letter : ℕ → Bool
is_letter b = nat_le 65 b && nat_le b 90

-- 1 to 8 of A to Z and 0 to 9, a letter first
abbrev pub is_name : List ℕ → Bool
is_name [] = false
is_name (b ∷ bs) = is_letter b && list_all (λ x. is_letter x || is_figure x) bs
    && nat_le (length bs) 7

-- from least to most figures
abbrev pub are_figures : ℕ → ℕ → List ℕ → Bool
are_figures least most text = nat_le least (length text)
    && nat_le (length text) most && list_all is_figure text

-- one to ten figures with no sign, and no zero in front of others
abbrev pub is_numeral : List ℕ → Bool
is_numeral text = are_figures 1 10 text && (length text == 1 || not (slice_index text 0 == 48))

-- the number that a text is the decimal form of, if it is at most max
abbrev pub number_of : ℕ → List ℕ → Option ℕ
number_of max text = if is_numeral text && nat_le (digits_value 10 text) max
    then Some (digits_value 10 text) else None

-- 1 to 12 figures, or nothing where the text is none such
abbrev pub figures_of : List ℕ → Option (List ℕ)
figures_of text = if are_figures 1 12 text then Some text else None
