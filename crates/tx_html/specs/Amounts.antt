-- Numbers on a page.
use Rattle.std.specs.Prelude.{ℕ, ◌%◌, ◌&&◌, ◌==◌, nat_le, if◌then◌else◌, List, [], ◌∷◌, ◌++◌, length, decimal}

-- what stands before the last n figures of a number: a narrow space (U+202F), if they are threes
abbrev pub gap : ℕ → List ℕ
gap n = if nat_le 1 n && ((n % 3) == 0) then 226 ∷ 128 ∷ 175 ∷ [] else []

-- figures in threes
abbrev pub in_threes : List ℕ → List ℕ
in_threes [] = []
in_threes (f ∷ figures) = f ∷ (gap (length figures) ++ in_threes figures)

-- a number, with its figures in threes
abbrev pub amount : ℕ → List ℕ
amount n = in_threes (decimal n)
