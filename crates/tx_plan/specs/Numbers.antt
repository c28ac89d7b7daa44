-- The figures of codes and of national numbers, and ranges of these (ITU-T F.69).
use Rattle.std.specs.Prelude.{ℕ, ◌+◌, ◌/◌, ◌%◌, Bool, ◌&&◌, ◌==◌, List, [], ◌∷◌, length}
use Rattle.std.specs.Ordering.{is_le, nat_cmp}
use Rattle.std.specs.Cmp.Lexicographic.{slice_cmp}
use Rattle.tx_text.specs.Words.{are_figures}
use Rattle.tx_plan.specs.declared.range.LineRange.{LineRange}

-- two or three figures
abbrev pub is_code : List ℕ → Bool
is_code text = are_figures 2 3 text

-- the three figures of a number below 1,000
abbrev pub three_figures : ℕ → List ℕ
three_figures n = (48 + n / 100) ∷ (48 + n / 10 % 10) ∷ (48 + n % 10) ∷ []

-- one to nine figures
abbrev pub is_national : List ℕ → Bool
is_national text = are_figures 1 9 text

-- the one text of figures is not above the other, figure by figure
abbrev pub at_most : List ℕ → List ℕ → Bool
at_most low high = is_le (slice_cmp nat_cmp low high)

-- of the range's width, and from low to high
abbrev pub in_range : List ℕ → LineRange → Bool
in_range number r = (length number == length r.low)
    && (at_most r.low number && at_most number r.high)

-- two ranges of one code and width share a number
abbrev pub shares : ℕ → List ℕ → List ℕ → LineRange → Bool
shares code low high r = (r.code == code)
    && ((length r.low == length low) && (at_most r.low high && at_most low r.high))
