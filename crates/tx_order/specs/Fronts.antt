-- Fronts: how far the levels of each code are switched before each stage.
use Rattle.std.specs.Prelude.{ℕ, zero, suc, max, List, [], ◌∷◌, length, slice_get, slice_index_or}
use Rattle.std.specs.Option.{option_map_or}
use Rattle.tx_order.specs.Levels.{levels_of}

-- The front of a code before a stage, by the fronts at which its stages end: none of its levels is
-- switched before the first stage, and all of them are after the last one.
abbrev pub front_of : (limit : ℕ) → List ℕ → ℕ → ℕ
front_of limit ends zero = 0
front_of limit ends (suc s) = slice_index_or ends s (levels_of limit)

-- the ends of the stages of the code at an index; none for an index that there is not
abbrev pub ends_of : List (List ℕ) → ℕ → List ℕ
ends_of codes c = option_map_or (λ ends. ends) (slice_get codes c) []

-- the front of each code before a stage
abbrev pub front_at : (limit : ℕ) → List (List ℕ) → (s c : ℕ) → ℕ
front_at limit codes s c = front_of limit (ends_of codes c) s

-- how many stages there are: as many as the code has that has the most
abbrev pub count_of : List (List ℕ) → ℕ
count_of [] = 0
count_of (ends ∷ codes) = max (length ends) (count_of codes)
