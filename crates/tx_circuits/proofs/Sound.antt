-- The lists of a group: as they are said, and as they are linked.
use Rattle.tx_circuits.proofs.Common.{◌≡◌, ◌∙◌, ℕ, ◌+◌, ◌<◌, ◌≤◌, Bool, true, false, List, [], ◌∷◌, ◌++◌, length, map, take, drop, Option, Some, None, slice_index_or, slice_set, refl, sym, ap, subst, arith, filter, nat_lt, ◌&&◌, End, First, Other, Way, Slot, CircuitState, FreeList, FreeLists, IsFirst, with}
use Rattle.std.proofs.lemmas.List.{length-map, map-set, get_or_default}
use Rattle.std.proofs.lemmas.List.Edits.{map_over_more}
use Rattle.tx_circuits.specs.inner.Slots.{free_at, free_in, is_free, links_of, ahead, link_at, chain, rank_of, list_of, begins, until, in_order, state_of, cleared_state, IsListed, AreLinked, IsSound}
use Rattle.tx_circuits.proofs.Columns.{column-set, column_same}
use Rattle.tx_circuits.proofs.Linked.{linked_along}
use Rattle.tx_circuits.proofs.Ordered.{linked, followed, in_order_holds}
use Rattle.tx_circuits.proofs.Appending.{until_none}
use Rattle.tx_circuits.proofs.Indexes.{free_within}

pub are_linked : (slots : List Slot) (lists : FreeLists) → IsSound slots lists → AreLinked slots lists
are_linked slots lists sound = λ end way.
    linked (free_at end slots) (rank_of way) (chain end way slots (list_of end lists)) (filter (free_at end slots) (in_order way (length slots))) (sound.followed end way)
    (in_order_holds way (free_at end slots) (length slots) sound.short (free_within end slots))

pub are_sound : (slots : List Slot) (lists : FreeLists) → length slots ≤ 240 → AreLinked slots lists → IsSound slots lists
are_sound slots lists short links = record {
  short = short;
  followed = λ end way. followed (free_at end slots) (rank_of way) (chain end way slots (list_of end lists)) (links end way) (filter (free_at end slots) (in_order way (length slots)))
      (in_order_holds way (free_at end slots) (length slots) short (free_within end slots));
}

-- a list stays one where its links and what is free are the same
pub listed_along : (free free' : ℕ → Bool) (end : End) (old new : List Slot) (list : FreeList) → ((k : ℕ) → free k ≡ free' k) → ((way : Way) (k : ℕ) → link_at end way new k ≡ link_at end way old k)
    → IsListed free end old list → IsListed free' end new list
listed_along free free' end old new list ef el h = λ way. linked_along free free' (rank_of way) (chain end way old list) (chain end way new list) ef (same way) (h way)
  where
    same : (way : Way) (q : Option ℕ) → chain end way old list q ≡ chain end way new list q
    same way None = refl
    same way (Some k) = sym (el way k)

pub free_alike : (end : End) (old new : List Slot) → map state_of new ≡ map state_of old → (k : ℕ) → free_at end new k ≡ free_at end old k
free_alike end old new e k = ap (λ (l : List CircuitState). free_in end l k) e

-- the slot at an index, with another state
abbrev pub given : List Slot → ℕ → Slot → CircuitState → Slot
given slots i z to = record (slice_index_or slots i z) { state = to }

-- it keeps its links
module _ (two : List Slot) (i : ℕ) (z : Slot) (to : CircuitState) (i_in : i < length two) where
  links : (end : End) → links_of end (given two i z to) ≡ links_of end (slice_index_or two i z)
  links First = refl
  links Other = refl

  written : (end : End) (k : ℕ) → free_at end (slice_set two i (given two i z to)) k ≡ with (free_at end two) i (is_free end to) k
  written end k = ap (λ (l : List CircuitState). free_in end l k) (map-set state_of two i (given two i z to)) ∙ column-set (is_free end) (map state_of two) i k to false (rw length-map i_in)

  pub after_write : (end : End) (list : FreeList) → IsListed (with (free_at end two) i (is_free end to)) end two list → IsListed (free_at end (slice_set two i (given two i z to))) end (slice_set two i (given two i z to)) list
  after_write end list h =
      listed_along (with (free_at end two) i (is_free end to)) (free_at end (slice_set two i (given two i z to))) end two (slice_set two i (given two i z to)) list (λ k. sym (written end k))
      (λ way k. column_same (λ (s : Slot). ahead way (links_of end s)) two i k (given two i z to) z None (ap (ahead way) (links end)) i_in) h

-- a slot with its state cleared
abbrev pub with_cleared : Slot → Slot
with_cleared s = record s { state = cleared_state s.state }

pub states_cleared : (slots : List Slot) → map state_of (map with_cleared slots) ≡ map cleared_state (map state_of slots)
states_cleared [] = refl
states_cleared (s ∷ slots) = ap (λ (l : List CircuitState). cleared_state s.state ∷ l) (states_cleared slots)

-- one slot more is cleared
pub cleared_more : (old slots : List Slot) (i : ℕ) (z : Slot) (to : CircuitState) → i < length old → length slots ≡ length old → slots ≡ map with_cleared (take i old) ++ drop i old → to ≡ cleared_state (slice_index_or slots i z).state
    → slice_set slots i (given slots i z to) ≡ map with_cleared (take (i + 1) old) ++ drop (i + 1) old
cleared_more old slots i z to lt long h e =
    let x = slice_index_or slots i z in
    ap (λ s. slice_set slots i (given slots i z s)) e ∙ map_over_more with_cleared old slots i x lt h (get_or_default slots i z x (omega arith))

pub until_alike : (n : ℕ) (end : End) (old new : List Slot) → map state_of new ≡ map state_of old → (k : ℕ) → until n (free_at end old) k ≡ until n (free_at end new) k
until_alike n end old new e k = ap (λ b. nat_lt k n && b) (sym (free_alike end old new e k))

-- with nothing listed yet, empty lists do
pub empty_listed : (end : End) (slots : List Slot) (lists : FreeLists) → ((end : End) (way : Way) → begins way (list_of end lists) ≡ None) → IsListed (until 0 (free_at end slots)) end slots (list_of end lists)
empty_listed end slots lists none = λ way. record {
  begins = subst (IsFirst (until 0 (free_at end slots)) (rank_of way) 0) (sym (none end way)) (λ k f. absurd (let bad : true ≡ false = sym f ∙ until_none (free_at end slots) k in cc));
  goes_on = λ k f. absurd (let bad : true ≡ false = sym f ∙ until_none (free_at end slots) k in cc);
}
