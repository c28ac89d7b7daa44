-- The slab and the index of calls, as contracts see them.
use Rattle.std.proofs.Common.{◌≡◌, ℕ, zero, suc, ◌<◌, true, false, List, [], ◌∷◌, map, length, Option, Some, None, is_some, slice_index_or, refl, sym, ap, subst, ◌∙◌, arith, count_by}
use Rattle.tx_engine.proofs.Common.{if◌then◌else◌, ◌==◌, cond, option_map, IndexMap, Call, set_call, call_seen, IsTied}
use Rattle.std.proofs.lemmas.List.Sums.{sum_by-cons}
use Rattle.slab.specs.Slab as slab
use Rattle.slab.specs.Slab.{Slab}
use Rattle.tx_engine.specs.inner.KeptCalls.{Kept, KeptCalls, kept_at, Changes, sorted_calls, calls_in, kept_of, slots_of, calls_of}
use Rattle.tx_machine.specs.declared.open_call.OpenCall.{OpenCall}
use Rattle.tx_engine.proofs.Sorted.{length_put, after_change, tied_distinct, tied_after_change}

pub some_under : (v : KeptCalls) (key : ℕ) → is_some (kept_at v key) ≡ true → (k : Kept) × (kept_at v key ≡ Some k)
some_under v key h = by (kept_at v key) refl h
  where
    by : (o : Option Kept) → kept_at v key ≡ o → is_some o ≡ true → (k : Kept) × (kept_at v key ≡ Some k)
    by None q h = absurd (let bad : ⊥ = cc in bad)
    by (Some k) q h = (k, q)

module _ {A : Type 0} where
  slot_is : (xs : List (Option (OpenCall A))) (key : ℕ) → slice_index_or (map (option_map kept_of) xs) key None ≡ option_map kept_of (slice_index_or xs key None)
  slot_is [] key = refl
  slot_is (o ∷ xs) zero = refl
  slot_is (o ∷ xs) (suc key) = slot_is xs key

  -- how many calls there are
  pub length_calls : (xs : List (Option (OpenCall A))) → count_by is_some xs ≡ length (sorted_calls (map (option_map kept_of) xs))
  length_calls [] = refl
  length_calls (None ∷ xs) = omega (arith, length_calls xs, sum_by-cons (λ (o : Option (OpenCall A)). cond (is_some o) 1 0) None xs)
  length_calls (Some c ∷ xs) = omega (arith, length_calls xs, length_put (call_seen c) (sorted_calls (map (option_map kept_of) xs)), sum_by-cons (λ (o : Option (OpenCall A)). cond (is_some o) 1 0) (Some c) xs)

module _ {A S : Type 0} where
  pub kept_is : (s : Slab (OpenCall A)) (m : IndexMap ℕ ℕ S) (key : ℕ) → kept_at (calls_of s m) key ≡ option_map kept_of (slab.get s key)
  kept_is s m key = slot_is s.slots key

  pub changes_of : (s s' : Slab (OpenCall A)) (m m' : IndexMap ℕ ℕ S) (key : ℕ) (o : Option (OpenCall A)) → slab.Updates s s' key o → Changes (calls_of s m) (calls_of s' m') key (option_map kept_of o)
  changes_of s s' m m' key o up = record {
    changed = slot_is s'.slots key ∙ ap (option_map kept_of) up.changed;
    others = λ k ne. slot_is s'.slots k ∙ ap (option_map kept_of) (up.others k ne) ∙ sym (slot_is s.slots k);
  }

  -- what is kept under a key is a call of the slab
  pub call_under : (s : Slab (OpenCall A)) (m : IndexMap ℕ ℕ S) (key : ℕ) (k : Kept) → kept_at (calls_of s m) key ≡ Some k → (c : OpenCall A) × (slab.get s key ≡ Some c) × (kept_of c ≡ k)
  call_under s m key k e = by (slab.get s key) refl (sym (slot_is s.slots key) ∙ e)
    where
      by : (o : Option (OpenCall A)) → slab.get s key ≡ o → option_map kept_of o ≡ Some k → (c : OpenCall A) × (slab.get s key ≡ Some c) × (kept_of c ≡ k)
      by None q h = absurd (let bad : ⊥ = cc in bad)
      by (Some c) q h = (c, q, let same : kept_of c ≡ k = cc in same)

  -- A CALL CHANGES, AND KEEPS ITS NUMBER
  module _ (s s' : Slab (OpenCall A)) (m : IndexMap ℕ ℕ S) (tied : IsTied (slots_of s) m) (v : KeptCalls) (view : calls_of s m ≡ v) (key : ℕ)
      (f : Call → Call) (keeps : (c : Call) → (f c).number ≡ c.number)
      (write : (c : OpenCall A) → slab.get s key ≡ Some c → (d : OpenCall A) × slab.Updates s s' key (Some d) × (call_seen d ≡ f (call_seen c))) where
    under : (k : Kept) → kept_at v key ≡ Some k → (c : OpenCall A) × (slab.get s key ≡ Some c) × (kept_of c ≡ k)
    under k was = call_under s m key k (subst (λ (w : KeptCalls). kept_at w key ≡ Some k) (sym view) was)

    tied_by : (k : Kept) → kept_at v key ≡ Some k → IsTied (slots_of s') m
    tied_by k was =
        let u = under k was in
        let w = write u.0 u.1 in
        tied_after_change (calls_of s m) (calls_of s' m) m key (kept_of u.0) (kept_of w.0) tied (kept_is s m key ∙ ap (option_map kept_of) u.1)
        (ap (λ (z : Call). z.number) w.2 ∙ keeps (call_seen u.0)) (changes_of s s' m m key (Some w.0) w.1)

    pub tied_written : is_some (kept_at v key) ≡ true → IsTied (slots_of s') m
    tied_written there = let k = some_under v key there in tied_by k.0 k.1

    pub changes_written : (k : Kept) → kept_at v key ≡ Some k → (r : ℕ) × Changes v (calls_of s' m) key (Some (record { call = f k.call; room = r }))
    changes_written k was =
        let u = under k was in
        let w = write u.0 u.1 in (
          (kept_of w.0).room,
          subst (λ (z : KeptCalls). Changes z (calls_of s' m) key (Some (record { call = f k.call; room = (kept_of w.0).room }))) view
              (subst (λ (z : Call). Changes (calls_of s m) (calls_of s' m) key (Some (record { call = z; room = (kept_of w.0).room }))) (w.2 ∙ ap (λ (z : Kept). f z.call) u.2) (changes_of s s' m m key (Some w.0) w.1)),
        )

    pub calls_written : (k : Kept) → kept_at v key ≡ Some k → calls_in (calls_of s' m) ≡ set_call k.call.number f (calls_in v)
    calls_written k was =
        let u = under k was in
        let w = write u.0 u.1 in
        after_change (calls_of s m) (calls_of s' m) key (kept_of u.0) (kept_of w.0) f (tied_distinct (calls_of s m) m tied) (tied_distinct (calls_of s' m) m (tied_by k was)) keeps
        (kept_is s m key ∙ ap (option_map kept_of) u.1) (changes_of s s' m m key (Some w.0) w.1) w.2
        ∙ (λ i. set_call (u.2 i).call.number f (calls_in (view i)))

  -- with what room it has
  pub changes_exactly : (s s' : Slab (OpenCall A)) (m : IndexMap ℕ ℕ S) (v : KeptCalls) (view : calls_of s m ≡ v) (key : ℕ) (h : Kept → Kept)
      → ((c : OpenCall A) → slab.get s key ≡ Some c → (d : OpenCall A) × slab.Updates s s' key (Some d) × (kept_of d ≡ h (kept_of c)))
      → (k : Kept) → kept_at v key ≡ Some k → Changes v (calls_of s' m) key (Some (h k))
  changes_exactly s s' m v view key h write k was =
      let u = call_under s m key k (subst (λ (w : KeptCalls). kept_at w key ≡ Some k) (sym view) was) in
      let w = write u.0 u.1 in
      subst (λ (z : KeptCalls). Changes z (calls_of s' m) key (Some (h k))) view
      (subst (λ z. Changes (calls_of s m) (calls_of s' m) key (Some z)) (w.2 ∙ ap h u.2) (changes_of s s' m m key (Some w.0) w.1))

  pub room_under : (s : Slab (OpenCall A)) (m : IndexMap ℕ ℕ S) (v : KeptCalls) → calls_of s m ≡ v → (key : ℕ) → ((k : Kept) → kept_at v key ≡ Some k → 0 < k.room)
      → (c : OpenCall A) → slab.get s key ≡ Some c → 0 < (kept_of c).room
  room_under s m v view key room c e = room (kept_of c) (ap (λ (w : KeptCalls). kept_at w key) (sym view) ∙ kept_is s m key ∙ ap (option_map kept_of) e)

-- nothing changes by the identity
pub set_none : (n : ℕ) (cs : List Call) → set_call n (λ k. k) cs ≡ cs
set_none n [] = refl
set_none n (d ∷ cs) = λ i. whole d i ∷ set_none n cs i
  where
    whole : (d : Call) → (if d.number == n then d else d) ≡ d
    whole d = elim (d.number == n) as (λ b. (if b then d else d) ≡ d) [ true ↦ refl | false ↦ refl ]
