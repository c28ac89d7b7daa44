-- The head of a free list is the first free index, as the end looks.
use Rattle.tx_circuits.proofs.Common.{◌≡◌, ◌∙◌, ℕ, Bool, true, false, cond, List, [], ◌∷◌, length, map, Option, Some, None, sym, ap, filter, find, length-map, End, Slot, FreeLists, GroupHead, Follows, chain, free_at, list_of, in_order, state_of, IsSound, first_index, way_of}

head_is : (next : Option ℕ → Option ℕ) (q : Option ℕ) (p : ℕ → Bool) (xs : List ℕ) → Follows next q (filter p xs) → next q ≡ find p xs
head_is next q p [] f = f
head_is next q p (x ∷ xs) f = elim (p x) as (λ b. Follows next q (cond b (x ∷ filter p xs) (filter p xs)) → next q ≡ cond b (Some x) (find p xs)) [
  | true ↦ λ f. f.0
  | false ↦ λ f. head_is next q p xs f
] f

pub first_index_is : (slots : List Slot) (lists : FreeLists) (head : GroupHead) (end : End) → IsSound slots lists
    → chain end (way_of end) slots (list_of end lists) None ≡ first_index (record { head = head; states = map state_of slots }) end
first_index_is slots lists head end sound =
    head_is (chain end (way_of end) slots (list_of end lists)) None (free_at end slots) (in_order (way_of end) (length slots)) (sound.followed end (way_of end))
    ∙ ap (λ (n : ℕ). find (free_at end slots) (in_order (way_of end) n)) (sym (length-map slots state_of))
