-- The slots of a group whose circuits are all free, each linked to the next one.
use Rattle.tx_circuits.proofs.Common.{◌≡◌, ◌∙◌, ℕ, zero, suc, ◌+◌, ◌-◌, ◌<◌, ◌≤◌, inl, inr, true, false, List, [], ◌∷◌, ◌++◌, length, map, Some, None, slice_index_or, refl, sym, ap, subst, arith, replicate, if◌then◌else◌, range_with_len, End, First, Other, Way, Up, Down, CircuitState, Slot, FreeList, FreeLists, IsFirst, idle, free_slot}
use Rattle.std.proofs.lemmas.List.{append-nil, append_assoc, get_or-replicate, length-replicate}
use Rattle.std.proofs.lemmas.List.FromFn.{length-map-range_with_len, get_or-map-range_with_len, map-range_with_len_more}
use Rattle.tx_circuits.specs.inner.Slots.{is_free, free_at, link_at, links_of, ahead, chain, rank_of, list_of, least_from, greatest_before, list_of_all, state_of, IsSound}
use Rattle.tx_circuits.proofs.Appending.{ltb_tells}
use Rattle.tx_circuits.proofs.Columns.{column_at}
use Rattle.tx_circuits.proofs.Indexes.{free_within, each_end}
use Rattle.tx_circuits.proofs.Sound.{are_sound}

pub all_idle : (n low count : ℕ) → map state_of (map (free_slot n) (range_with_len low count)) ≡ replicate count idle
all_idle n low zero = refl
all_idle n low (suc count) = ap (λ (l : List CircuitState). idle ∷ l) (all_idle n (low + 1) count)

-- no slot is made yet, and then one more
pub none_made : (old slots : List Slot) → slots ≡ old → slots ≡ old ++ []
none_made old slots e = e ∙ sym (append-nil old)

pub one_more : (old slots new : List Slot) (n index : ℕ) (slot : Slot) → slots ≡ old ++ map (free_slot n) (range_with_len 0 index) → slot ≡ free_slot n index → new ≡ slots ++ slot ∷ []
    → new ≡ old ++ map (free_slot n) (range_with_len 0 (index + 1))
one_more old slots new n index slot made is grown =
    grown ∙ (λ i. made i ++ is i ∷ []) ∙ append_assoc old (map (free_slot n) (range_with_len 0 index)) (free_slot n index ∷ [])
    ∙ ap (λ (l : List Slot). old ++ l) (sym (map-range_with_len_more (free_slot n) 0 index index (omega arith)))

pub each_all : (old : List Slot) (n index : ℕ) → index ≡ n → old ++ map (free_slot n) (range_with_len 0 index) ≡ old ++ map (free_slot n) (range_with_len 0 n)
each_all old n index e = ap (λ (k : ℕ). old ++ map (free_slot n) (range_with_len 0 k)) e

module _ (n : ℕ) (short : n ≤ 240) where
  abbrev slots : List Slot
  slots = map (free_slot n) (range_with_len 0 n)

  long : length slots ≡ n
  long = length-map-range_with_len (free_slot n) 0 n

  idle_is_free : (end : End) → is_free end idle ≡ true
  idle_is_free First = refl
  idle_is_free Other = refl

  free_is : (end : End) (k : ℕ) → k < n → free_at end slots k ≡ true
  free_is end k lt =
      ap (λ (l : List CircuitState). slice_index_or (map (is_free end) l) k false) (all_idle n 0 n)
      ∙ column_at (is_free end) (replicate n idle) k idle false (let e : length (replicate n idle) ≡ n = length-replicate n idle in omega arith)
      ∙ ap (is_free end) (get_or-replicate n k idle idle lt) ∙ idle_is_free end

  within : (end : End) (k : ℕ) → free_at end slots k ≡ true → k < n
  within end k f = (let a : k < length slots = free_within end slots k f in let b : length slots ≡ n = long in omega arith)

  module _ (end : End) where
    up : (low : ℕ) → IsFirst (free_at end slots) (rank_of Up) low (least_from low n)
    up low = elim (ltb_tells low n) [
      | inl a ↦ subst (IsFirst (free_at end slots) (rank_of Up) low) (sym (ap (λ b. if b then Some low else None) a.0)) (free_is end low a.1, omega arith, λ k f le. le)
      | inr b ↦ subst (IsFirst (free_at end slots) (rank_of Up) low) (sym (ap (λ b. if b then Some low else None) b.0)) (λ k f. let c : k < n = within end k f in let d : n ≤ low = b.1 in omega arith)
    ]

    down : (high low : ℕ) → high ≤ n → ((k : ℕ) → k < n → low ≤ 255 - k → k < high) → low + high ≤ 256 → IsFirst (free_at end slots) (rank_of Down) low (greatest_before high)
    down zero low le none at = λ k f. elim (ltb_tells (255 - k) low) [
      | inl a ↦ a.1
      | inr b ↦ absurd (let c : k < 0 = none k (within end k f) b.1 in omega arith)
    ]
    down (suc high) low le above at = (free_is end high (omega arith), omega arith, λ k f c. let d : k < suc high = above k (within end k f) c in omega arith)

    first : (way : Way) (lists : FreeLists) → list_of end lists ≡ list_of_all n → IsFirst (free_at end slots) (rank_of way) 0 (chain end way slots (list_of end lists) None)
    first Up lists e = subst (IsFirst (free_at end slots) (rank_of Up) 0) (sym (ap (λ (l : FreeList). l.least) e)) (up 0)
    first Down lists e = subst (IsFirst (free_at end slots) (rank_of Down) 0) (sym (ap (λ (l : FreeList). l.greatest) e)) (down n 0 (omega arith) (λ k lt le. lt) (omega arith))

    link : (way : Way) (k : ℕ) → k < n → link_at end way slots k ≡ ahead way (links_of end (free_slot n k))
    link way k lt = column_at (λ s. ahead way (links_of end s)) slots k (free_slot n k) None (let e : length slots ≡ n = long in omega arith)
        ∙ ap (λ (s : Slot). ahead way (links_of end s)) (get_or-map-range_with_len (free_slot n) 0 n k k (free_slot n k) lt (omega arith))

    same_links : (way : Way) (k : ℕ) → ahead way (links_of end (free_slot n k)) ≡ ahead way (links_of First (free_slot n k))
    same_links way k = each_end (λ e. ahead way (links_of e (free_slot n k)) ≡ ahead way (links_of First (free_slot n k))) refl refl end

    next : (way : Way) (k : ℕ) → k < n → IsFirst (free_at end slots) (rank_of way) (rank_of way k + 1) (link_at end way slots k)
    next Up k lt = subst (IsFirst (free_at end slots) (rank_of Up) (k + 1)) (sym (link Up k lt ∙ same_links Up k)) (up (k + 1))
    next Down k lt = subst (IsFirst (free_at end slots) (rank_of Down) (255 - k + 1)) (sym (link Down k lt ∙ same_links Down k)) (down k (255 - k + 1) (omega arith) (λ j a b. omega arith) (omega arith))

  pub all_sound : (lists : FreeLists) → ((end : End) → list_of end lists ≡ list_of_all n) → IsSound slots lists
  all_sound lists heads = are_sound slots lists (let e : length slots ≡ n = long in omega arith) (λ end way. record {
    begins = first end way lists (heads end);
    goes_on = λ k f. next end way k (within end k f);
  })
