-- Calls that are changed in place.
use Rattle.tx_machine.proofs.Common.{◌≡◌, ℕ, zero, suc, [], ◌∷◌, ◌+◌, ◌<◌, ◌≤◌, List, ◌++◌, inl, inr, map, take, drop, length, get_or, ap, sym, ◌∙◌, arith, subst, add-one, refl, slice_set, length-set, take_all, drop_all, append-nil, among_at, Call, Among, call_seen, OpenCall, Change}
use Rattle.tx_machine.specs.inner.Seen.{changed_call, change_at, HasRoom, IsReady, CanChange}
use Rattle.tx_machine.proofs.Sweeps.{step_seen, mem_set, mem_take_set}

-- the calls up to an index have room for a hop
pub record IsReserving {A : Type 0} (n : ℕ) (old : List (OpenCall A)) (at : ℕ) (now : List (OpenCall A)) : Type 0 where
  pub seen : map call_seen now ≡ map call_seen old
  pub len : length now ≡ length old
  pub room : ((c : OpenCall A) → Among c old → HasRoom c) → (c : OpenCall A) → Among c now → HasRoom c
  pub ready : (c : OpenCall A) → Among c (take at now) → IsReady n c
  pub within : at ≤ length now

-- the calls up to an index are changed
pub record IsChanging {A : Type 0} (n : ℕ) (change : Change) (old : List (OpenCall A)) (at : ℕ) (now : List (OpenCall A)) : Type 0 where
  pub seen : map call_seen (take at now) ++ map (change_at n (changed_call change)) (map call_seen (drop at now)) ≡ map (change_at n (changed_call change)) (map call_seen old)
  pub len : length now ≡ length old
  pub room : ((c : OpenCall A) → Among c old → HasRoom c) → (c : OpenCall A) → Among c now → HasRoom c
  pub ready : (c : OpenCall A) → Among c (drop at now) → CanChange change n c
  pub within : at ≤ length now

map_set_seen : {X Y : Type 0} (f : X → Y) (xs : List X) (i : ℕ) (x y : X) → i < length xs → x ≡ get_or xs i x → f y ≡ f x → map f (slice_set xs i y) ≡ map f xs
map_set_seen f [] i x y h e s = absurd (omega arith)
map_set_seen f (z ∷ zs) zero x y h e s = ap (λ w. w ∷ map f zs) (s ∙ ap f e)
map_set_seen f (z ∷ zs) (suc i) x y h e s = ap (λ l. f z ∷ l) (map_set_seen f zs i x y (omega arith) e s)

module _ {A : Type 0} (n : ℕ) (old : List (OpenCall A)) (at : ℕ) (now : List (OpenCall A)) (x y : OpenCall A) (h : at < length now) (is : x ≡ get_or now at x) where
  module _ (inv : IsReserving n old at now) (seen' : call_seen y ≡ call_seen x) (room' : HasRoom x → HasRoom y) where
    pub reserved_seen : map call_seen (slice_set now at y) ≡ map call_seen old
    reserved_seen = map_set_seen call_seen now at x y h is seen' ∙ inv.seen

    pub reserved_room : ((c : OpenCall A) → Among c old → HasRoom c) → (c : OpenCall A) → Among c (slice_set now at y) → HasRoom c
    reserved_room r c m = elim (mem_set now at y c m) [ inl e ↦ subst HasRoom e (room' (inv.room r x (among_at now at x h is))) | inr o ↦ inv.room r c o ]

    pub reserved_step : IsReady n y → IsReserving n old (at + 1) (slice_set now at y)
    reserved_step ready' = record {
      seen = reserved_seen;
      len = length-set now at y ∙ inv.len;
      room = reserved_room;
      ready = λ c m. elim (mem_take_set now at y c (subst (λ k. Among c (take k (slice_set now at y))) (add-one at) m)) [ inl e ↦ subst (IsReady n) e ready' | inr o ↦ inv.ready c o ];
      within = subst (λ k. at + 1 ≤ k) (sym (length-set now at y)) (omega arith);
    }

  module _ (change : Change) (inv : IsChanging n change old at now) where
    pub ready_here : CanChange change n x
    ready_here = inv.ready x (mem_drop now at x h is)
      where
        mem_drop : (xs : List (OpenCall A)) (i : ℕ) (x : OpenCall A) → i < length xs → x ≡ get_or xs i x → Among x (drop i xs)
        mem_drop [] i x h e = absurd (omega arith)
        mem_drop (y ∷ ys) zero x h e = inl (sym e)
        mem_drop (y ∷ ys) (suc i) x h e = mem_drop ys i x (omega arith) e

    pub changed_step : call_seen y ≡ change_at n (changed_call change) (call_seen x) → (HasRoom x → HasRoom y) → IsChanging n change old (at + 1) (slice_set now at y)
    changed_step seen' room' = record {
      seen = subst (λ k. map call_seen (take k (slice_set now at y)) ++ map (change_at n (changed_call change)) (map call_seen (drop k (slice_set now at y))) ≡ map (change_at n (changed_call change)) (map call_seen old)) (sym (add-one at)) (step_seen call_seen (change_at n (changed_call change)) now at x y h is seen' ∙ inv.seen);
      len = length-set now at y ∙ inv.len;
      room = λ r c m. elim (mem_set now at y c m) [ inl e ↦ subst HasRoom e (room' (inv.room r x (among_at now at x h is))) | inr o ↦ inv.room r c o ];
      ready = λ c m. inv.ready c (mem_later now at y c (subst (λ k. Among c (drop k (slice_set now at y))) (add-one at) m));
      within = subst (λ k. at + 1 ≤ k) (sym (length-set now at y)) (omega arith);
    }
      where
        mem_later : (xs : List (OpenCall A)) (i : ℕ) (y c : OpenCall A) → Among c (drop (suc i) (slice_set xs i y)) → Among c (drop i xs)
        mem_later [] i y c m = elim m [ ]
        mem_later (x ∷ xs) zero y c m = inr m
        mem_later (x ∷ xs) (suc i) y c m = mem_later xs i y c m

pub all_ready : {A : Type 0} (n at : ℕ) (now : List (OpenCall A)) → ((c : OpenCall A) → Among c (take at now) → IsReady n c) → length now ≤ at → (c : OpenCall A) → Among c now → IsReady n c
all_ready n at now r h c m = r c (subst (λ l. Among c l) (sym (take_all at now h)) m)

-- before the first call
pub reserving_none : {A : Type 0} (n : ℕ) (old : List (OpenCall A)) → IsReserving n old 0 old
reserving_none n old = record { seen = refl; len = refl; room = λ r. r; ready = λ c m. absurd m; within = omega arith }

pub changing_none : {A : Type 0} (n : ℕ) (change : Change) (old : List (OpenCall A)) → ((c : OpenCall A) → Among c old → CanChange change n c) → IsChanging n change old 0 old
changing_none n change old ready' = record { seen = refl; len = refl; room = λ r. r; ready = ready'; within = omega arith }

-- past the last call
pub swept_all : {A : Type 0} (F : Call → Call) (old : List (OpenCall A)) (at : ℕ) (now : List (OpenCall A)) → map call_seen (take at now) ++ map F (map call_seen (drop at now)) ≡ map F (map call_seen old) → length now ≤ at → map call_seen now ≡ map F (map call_seen old)
swept_all F old at now seen past =
    sym (append-nil (map call_seen now))
    ∙ (λ i. map call_seen (sym (take_all at now past) i) ++ map F (map call_seen (sym (drop_all at now past) i)))
    ∙ seen
