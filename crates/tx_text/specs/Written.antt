-- Texts as they are written: words with one space between two, and an LF after each line.
use Rattle.std.specs.Prelude.{ℕ, List, [], ◌∷◌, ◌++◌}

-- Words with one space between two.
abbrev pub joined : List (List ℕ) → List ℕ
joined [] = []
joined (w ∷ []) = w
joined (w ∷ v ∷ ws) = w ++ 32 ∷ joined (v ∷ ws)

-- A line as it is written, with its LF.
abbrev pub line_written : List (List ℕ) → List ℕ
line_written ws = joined ws ++ 10 ∷ []
