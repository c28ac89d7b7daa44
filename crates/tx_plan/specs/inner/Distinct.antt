-- Lists of indexes in which none is twice.
use Rattle.std.specs.Prelude.{ℕ, Bool, true, not, ◌&&◌, ◌==◌, List, [], ◌∷◌}
use Rattle.std.specs.List.{list_any}

-- no index is there twice
abbrev pub differ : List ℕ → Bool
differ [] = true
differ (x ∷ xs) = not (list_any (λ y. y == x) xs) && differ xs
