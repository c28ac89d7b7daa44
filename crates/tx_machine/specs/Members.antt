-- Lists in which nothing is twice.
use Rattle.std.specs.Prelude.{◌≡◌, Bool, false, List, [], ◌∷◌}
use Rattle.std.specs.List.{list_any}

-- no member of a list is in it twice, by a test of two members
abbrev pub NoneTwice : {A : Type 0} → (A → A → Bool) → List A → Type 0
NoneTwice same [] = Unit {0}
NoneTwice same (x ∷ xs) = (list_any (same x) xs ≡ false) × NoneTwice same xs
