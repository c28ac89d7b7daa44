-- What a page shows of each index of a list.
use Rattle.std.specs.Prelude.{ℕ, List}
use Rattle.std.specs.List.{flat_map, range_with_len}

-- the texts of the indexes below n, in order
abbrev pub texts_below : ℕ → (ℕ → List (List ℕ)) → List (List ℕ)
texts_below n texts = flat_map texts (range_with_len 0 n)
