-- The names in a word, with a comma between two.
use Rattle.std.specs.Prelude.{ℕ, Bool, ◌==◌, List, [], Option, None, Some, slice_get, unwrap_or}
use Rattle.std.specs.List.{list_any, slice_split}
use Rattle.std.specs.Str.{bytes_eq}

-- the names in a word; 44 is the comma
abbrev pub names_in : List ℕ → List (List ℕ)
names_in = slice_split (λ b. b == 44)

-- this is one of them
abbrev pub is_named : (name word : List ℕ) → Bool
is_named name word = list_any (λ w. bytes_eq w name) (names_in word)

-- the one at a place; no bytes where the word has none
abbrev pub name_at : Option (List ℕ) → ℕ → List ℕ
name_at None place = []
name_at (Some word) place = unwrap_or (slice_get (names_in word) place) []
