-- Tests and indexes of a table's rows are those of the plan's entries.
use Rattle.tx_plan.proofs.Common.{◌≡◌, ℕ, Bool, ◌||◌, List, [], ◌∷◌, map, Option, Some, None, refl, sym, ap, ◌∙◌, position, slice_get, list_any, position_or_len, option_map, option_map_or, length-map, GroupRow, group_of_row, row_of}
use Rattle.std.proofs.lemmas.Option.{slice_get-map}

pub list_any-map : {A B : Type 0} (t : B → Bool) (f : A → B) (xs : List A) → list_any t (map f xs) ≡ list_any (λ x. t (f x)) xs
list_any-map t f [] = refl
list_any-map t f (x ∷ xs) = ap (λ b. t (f x) || b) (list_any-map t f xs)

position_or_len-map : {A B : Type 0} (t : B → Bool) (f : A → B) (xs : List A) → position_or_len t (map f xs) ≡ position_or_len (λ x. t (f x)) xs
position_or_len-map t f [] = refl
position_or_len-map t f (x ∷ xs) = rw (position_or_len-map t f xs) refl

pub position-map : {A B : Type 0} (t : B → Bool) (f : A → B) (xs : List A) → position t (map f xs) ≡ position (λ x. t (f x)) xs
position-map t f xs = rw (position_or_len-map t f xs, length-map xs f) refl

-- what is read at an index of a plan's list is read of the entry at that index of its map
pub value_at : {A B C : Type 0} (f : A → B) (read : B → C) (z : C) (es : List A) (i : ℕ) (o : Option A) → o ≡ slice_get es i → option_map_or (λ e. read (f e)) o z ≡ option_map_or read (slice_get (map f es) i) z
value_at {A} f read z es i o h = by o ∙ ap (λ (o : Option A). option_map_or read (option_map f o) z) h ∙ ap (λ o. option_map_or read o z) (sym (slice_get-map f es i))
  where
    by : (o : Option A) → option_map_or (λ e. read (f e)) o z ≡ option_map_or read (option_map f o) z
    by None = refl
    by (Some e) = refl

pub row_at : (es : List (List ℕ × GroupRow)) (i : ℕ) (e : List ℕ × GroupRow) → Some e ≡ slice_get es i → Some e.1 ≡ option_map row_of (slice_get (map group_of_row es) i)
row_at es i e h = ap (λ (o : Option (List ℕ × GroupRow)). option_map row_of (option_map group_of_row o)) h ∙ ap (option_map row_of) (sym (slice_get-map group_of_row es i))
