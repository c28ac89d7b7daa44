-- The calls of some slots in order of their numbers, and what an insertion, a change and a removal make of them.
use Rattle.std.proofs.Common.{◌≡◌, ◌≢◌, ◌⊎◌, inl, inr, ℕ, zero, suc, ◌<◌, ◌==◌, Bool, true, false, not, cond, List, [], ◌∷◌, ◌++◌, map, length, Option, Some, None, nat_eq, eqb, slice_index_or, refl, sym, ap, subst, ◌∙◌, arith, eqb-true, eq-eqb}
use Rattle.tx_engine.proofs.Common.{nat_tests, eqb_tells, IndexMap, Call, call_of, is_numbered, set_call, Among, IsRising, find_mem, find_none, IsTied}
use Rattle.std.specs.Prelude.{filter, if◌then◌else◌, nat_lt, Result, Ok, Err, OnOk, OnErr}
use Rattle.indexmap.specs.IndexMap as index
use Rattle.tx_plan.proofs.Among.{among_cases, among_left, among_map, among_right, filter_among, map_among}
use Rattle.tx_machine.proofs.Invariant.{rising_filter, rising_push, rising_map}
use Rattle.tx_engine.specs.inner.KeptCalls.{Kept, KeptCalls, kept_at, Changes, put_call, sorted_calls, calls_in}

-- the call under a key, if a key is given
abbrev at_key : KeptCalls → Option ℕ → Option Kept
at_key s None = None
at_key s (Some key) = kept_at s key

abbrev seen_if : Option Kept → Option Call
seen_if None = None
seen_if (Some k) = Some k.call

-- A call where its number stands

pub mem_put : (c : Call) (ds : List Call) (k : Call) → Among k (put_call c ds) → (c ≡ k) ⊎ Among k ds
mem_put c [] k m = elim m [ inl e ↦ inl e | inr z ↦ absurd z ]
mem_put c (d ∷ ds) k m =
    elim (nat_lt c.number d.number) as (λ b. Among k (if b then c ∷ d ∷ ds else d ∷ put_call c ds) → (c ≡ k) ⊎ Among k (d ∷ ds)) [
      | true ↦ λ m. m
      | false ↦ λ m. elim m [ inl e ↦ inr (inl e) | inr r ↦ elim (mem_put c ds k r) [ inl e ↦ inl e | inr q ↦ inr (inr q) ] ]
    ] m

pub put_mem : (c : Call) (ds : List Call) (k : Call) → (c ≡ k) ⊎ Among k ds → Among k (put_call c ds)
put_mem c [] k m = elim m [ inl e ↦ inl e | inr z ↦ elim z [ ] ]
put_mem c (d ∷ ds) k m =
    elim (nat_lt c.number d.number) as (λ b. Among k (if b then c ∷ d ∷ ds else d ∷ put_call c ds)) [
      | true ↦ m
      | false ↦ elim m [ inl e ↦ inr (put_mem c ds k (inl e)) | inr r ↦ elim r [ inl e ↦ inl e | inr q ↦ inr (put_mem c ds k (inr q)) ] ]
    ]

pub rising_put : (c : Call) (ds : List Call) → IsRising ds → ((d : Call) → Among d ds → d.number ≢ c.number) → IsRising (put_call c ds)
rising_put c [] r new = (λ d m. elim m [ ], tt)
rising_put c (d ∷ ds) r new =
    elim (nat_lt c.number d.number) as (λ b. nat_lt c.number d.number ≡ b → IsRising (if b then c ∷ d ∷ ds else d ∷ put_call c ds)) [
      | true ↦ λ t. let below : c.number < d.number = grind (arith, nat_tests) in
          (λ k m. elim m [ inl e ↦ subst (λ (z : Call). c.number < z.number) e below | inr q ↦ let later = r.0 k q in omega arith ], r)
      | false ↦ λ t. let apart = new d (inl refl) in let above : d.number < c.number = grind (arith, nat_tests) in
          (λ k m. elim (mem_put c ds k m) [ inl e ↦ subst (λ (z : Call). d.number < z.number) e above | inr q ↦ r.0 k q ], rising_put c ds r.1 (λ k q. new k (inr q)))
    ] refl

-- The calls of some slots

pub mem_sorted : (slots : List (Option Kept)) (k : Call) → Among k (sorted_calls slots) → (i : ℕ) × (c : Kept) × (slice_index_or slots i None ≡ Some c) × (c.call ≡ k)
mem_sorted [] k m = elim m [ ]
mem_sorted (None ∷ slots) k m = let r = mem_sorted slots k m in (suc r.0, r.1, r.2, r.3)
mem_sorted (Some c ∷ slots) k m = elim (mem_put c.call (sorted_calls slots) k m) [ inl e ↦ (0, c, refl, e) | inr q ↦ let r = mem_sorted slots k q in (suc r.0, r.1, r.2, r.3) ]

pub sorted_mem : (slots : List (Option Kept)) (i : ℕ) (c : Kept) → slice_index_or slots i None ≡ Some c → Among c.call (sorted_calls slots)
sorted_mem [] i c e = absurd (cc)
sorted_mem (None ∷ slots) zero c e = absurd (cc)
sorted_mem (None ∷ slots) (suc i) c e = sorted_mem slots i c e
sorted_mem (Some d ∷ slots) zero c e = let same : d ≡ c = cc in put_mem (d.call) (sorted_calls slots) c.call (inl (ap (λ (z : Kept). z.call) same))
sorted_mem (Some d ∷ slots) (suc i) c e = put_mem (d.call) (sorted_calls slots) c.call (inr (sorted_mem slots i c e))

-- no two slots have one number
abbrev pub AreDistinct : List (Option Kept) → Type 0
AreDistinct slots = (i j : ℕ) (c d : Kept) → slice_index_or slots i None ≡ Some c → slice_index_or slots j None ≡ Some d → c.call.number ≡ d.call.number → i ≡ j

pub rising_sorted : (slots : List (Option Kept)) → AreDistinct slots → IsRising (sorted_calls slots)
rising_sorted [] distinct = tt
rising_sorted (None ∷ slots) distinct = rising_sorted slots (λ i j c d a b e. let s = distinct (suc i) (suc j) c d a b e in omega arith)
rising_sorted (Some c ∷ slots) distinct =
    rising_put c.call (sorted_calls slots) (rising_sorted slots (λ i j c d a b e. let s = distinct (suc i) (suc j) c d a b e in omega arith))
    (λ d m e. let r = mem_sorted slots d m in let s : 0 ≡ suc r.0 = distinct 0 (suc r.0) c r.1 refl r.2 (sym e ∙ ap (λ (z : Call). z.number) (sym r.3)) in omega arith)

-- Two rising lists with the same members are one

pub rising_same : (xs ys : List Call) → IsRising xs → IsRising ys → ((k : Call) → Among k xs → Among k ys) → ((k : Call) → Among k ys → Among k xs) → xs ≡ ys
rising_same [] [] r q to from = refl
rising_same [] (y ∷ ys) r q to from = absurd (from y (inl refl))
rising_same (x ∷ xs) [] r q to from = absurd (to x (inl refl))
rising_same (x ∷ xs) (y ∷ ys) r q to from = let heads = same_heads (to x (inl refl)) (from y (inl refl)) in
    λ i. heads i ∷ rising_same xs ys r.1 q.1 (λ k m. tail_to heads k m (to k (inr m))) (λ k m. tail_from heads k m (from k (inr m))) i
  where
    same_heads : Among x (y ∷ ys) → Among y (x ∷ xs) → x ≡ y
    same_heads (inl e) n = sym e
    same_heads (inr m) (inl e) = e
    same_heads (inr m) (inr n) = let a = q.0 x m in let b = r.0 y n in absurd (omega arith)

    tail_to : x ≡ y → (k : Call) → Among k xs → Among k (y ∷ ys) → Among k ys
    tail_to e k m (inl f) = let a = r.0 k m in let g = ap (λ (z : Call). z.number) (e ∙ f) in absurd (omega arith)
    tail_to e k m (inr n) = n

    tail_from : x ≡ y → (k : Call) → Among k ys → Among k (x ∷ xs) → Among k xs
    tail_from e k m (inl f) = let a = q.0 k m in let g = ap (λ (z : Call). z.number) (sym e ∙ f) in absurd (omega arith)
    tail_from e k m (inr n) = n

-- The slab and the index together

module _ {S : Type 0} where
  pub tied_distinct : (s : KeptCalls) (m : IndexMap ℕ ℕ S) → IsTied s.slots m → AreDistinct s.slots
  tied_distinct s m tied i j c d a b e =
      let x = tied.whole i c a in
      let y : index.get nat_eq m c.call.number ≡ Some j = subst (λ n. index.get nat_eq m n ≡ Some j) (sym e) (tied.whole j d b) in
      let both : Some i ≡ Some j = sym x ∙ y in cc

  pub calls_rising : (s : KeptCalls) (m : IndexMap ℕ ℕ S) → IsTied s.slots m → IsRising (calls_in s)
  calls_rising s m tied = rising_sorted s.slots (tied_distinct s m tied)

  -- to look a number up in the list is to ask the index and then the slab
  pub looked_up : (s : KeptCalls) (m : IndexMap ℕ ℕ S) → IsTied s.slots m → (n : ℕ) → call_of n (calls_in s) ≡ seen_if (at_key s (index.get nat_eq m n))
  looked_up s m tied n = by (index.get nat_eq m n) refl (call_of n (calls_in s)) refl
    where
      by : (r : Option ℕ) → index.get nat_eq m n ≡ r → (o : Option Call) → call_of n (calls_in s) ≡ o → o ≡ seen_if (at_key s r)
      by None e None f = refl
      by None e (Some z) f =
          let i = find_mem (is_numbered n) (calls_in s) z f in
          let q = mem_sorted s.slots z i.0 in
          let there : index.get nat_eq m n ≡ Some q.0 = subst (λ k. index.get nat_eq m k ≡ Some q.0) (ap (λ (z : Call). z.number) q.3 ∙ eqb-true z.number n i.1) (tied.whole q.0 q.1 q.2) in
          absurd (let bad : None ≡ Some q.0 = sym e ∙ there in cc)
      by (Some key) e None f =
          let l = tied.leads n key e in
          let none = find_none (is_numbered n) (calls_in s) (l.0.call) f (sorted_mem s.slots key l.0 l.1) in
          absurd (let bad : true ≡ false = sym (eq-eqb l.0.call.number n l.2) ∙ none in cc)
      by (Some key) e (Some z) f =
          let l = tied.leads n key e in
          let i = find_mem (is_numbered n) (calls_in s) z f in
          let q = mem_sorted s.slots z i.0 in
          let there : index.get nat_eq m n ≡ Some q.0 = subst (λ k. index.get nat_eq m k ≡ Some q.0) (ap (λ (z : Call). z.number) q.3 ∙ eqb-true z.number n i.1) (tied.whole q.0 q.1 q.2) in
          let same : key ≡ q.0 = (let both : Some key ≡ Some q.0 = sym e ∙ there in cc) in
          let one : Some l.0 ≡ Some q.1 = sym l.1 ∙ subst (λ j. kept_at s j ≡ Some q.1) (sym same) q.2 in
          let call : l.0 ≡ q.1 = cc in
          ap Some (sym q.3 ∙ ap (λ (z : Kept). z.call) (sym call)) ∙ ap seen_if (sym l.1)

-- A call goes in

pub after_put : (s s' : KeptCalls) (key : ℕ) (c : Kept) → IsRising (calls_in s) → IsRising (calls_in s') → kept_at s key ≡ None → Changes s s' key (Some c)
    → ((d : Call) → Among d (calls_in s) → d.number < c.call.number) → calls_in s' ≡ calls_in s ++ c.call ∷ []
after_put s s' key c r r' vacant up above = rising_same (calls_in s') (calls_in s ++ c.call ∷ []) r' (rising_push (calls_in s) c.call r above) to from
  where
    to : (k : Call) → Among k (calls_in s') → Among k (calls_in s ++ c.call ∷ [])
    to k m =
        let q = mem_sorted s'.slots k m in
        elim (eqb_tells q.0 key) [
          | inl h ↦ (let both : Some q.1 ≡ Some c = sym q.2 ∙ subst (λ j. kept_at s' j ≡ Some c) (sym h.1) up.changed in let same : q.1 ≡ c = cc in
              among_right k (calls_in s) (c.call ∷ []) (inl (ap (λ (z : Kept). z.call) (sym same) ∙ q.3)))
          | inr h ↦ among_left k (calls_in s) (c.call ∷ []) (subst (λ z. Among z (calls_in s)) q.3 (sorted_mem s.slots q.0 q.1 (sym (up.others q.0 h.1) ∙ q.2)))
        ]

    from : (k : Call) → Among k (calls_in s ++ c.call ∷ []) → Among k (calls_in s')
    from k m = elim (among_cases k (calls_in s) (c.call ∷ []) m) [
      | inl o ↦ (let q = mem_sorted s.slots k o in
          let other : q.0 ≢ key = λ e. let bad : None ≡ Some q.1 = sym vacant ∙ subst (λ j. kept_at s j ≡ Some q.1) e q.2 in cc in
          subst (λ z. Among z (calls_in s')) q.3 (sorted_mem s'.slots q.0 q.1 (up.others q.0 other ∙ q.2)))
      | inr e ↦ elim e [ inl e ↦ subst (λ z. Among z (calls_in s')) e (sorted_mem s'.slots key c up.changed) | inr z ↦ absurd z ]
    ]

-- A call changes

abbrev pub at_number : ℕ → (Call → Call) → Call → Call
at_number n f k = if k.number == n then f k else k

at_kept : (n : ℕ) (f : Call → Call) → ((k : Call) → (f k).number ≡ k.number) → (k : Call) → (at_number n f k).number ≡ k.number
at_kept n f keeps k = elim (k.number == n) as (λ b. (if b then f k else k).number ≡ k.number) [ true ↦ keeps k | false ↦ refl ]

pub at_this : (n : ℕ) (f : Call → Call) (k : Call) → k.number ≡ n → at_number n f k ≡ f k
at_this n f k e = ap (λ b. if b then f k else k) (eq-eqb k.number n e)

pub at_other : (n : ℕ) (f : Call → Call) (k : Call) → k.number ≢ n → at_number n f k ≡ k
at_other n f k e = let t : (k.number == n) ≡ false = grind (arith, nat_tests) in ap (λ b. if b then f k else k) t

pub after_change : (s s' : KeptCalls) (key : ℕ) (c d : Kept) (f : Call → Call) → AreDistinct s.slots → AreDistinct s'.slots → ((k : Call) → (f k).number ≡ k.number)
    → kept_at s key ≡ Some c → Changes s s' key (Some d) → d.call ≡ f c.call → calls_in s' ≡ set_call c.call.number f (calls_in s)
after_change s s' key c d f one one' keeps was up is =
    rising_same (calls_in s') (set_call c.call.number f (calls_in s)) (rising_sorted s'.slots one') (rising_map (at_number c.call.number f) (at_kept c.call.number f keeps) (calls_in s) (rising_sorted s.slots one)) to from
  where
    to : (k : Call) → Among k (calls_in s') → Among k (map (at_number c.call.number f) (calls_in s))
    to k m =
        let q = mem_sorted s'.slots k m in
        elim (eqb_tells q.0 key) [
          | inl h ↦ (let both : Some q.1 ≡ Some d = sym q.2 ∙ subst (λ j. kept_at s' j ≡ Some d) (sym h.1) up.changed in let same : q.1 ≡ d = cc in
              subst (λ z. Among z (map (at_number c.call.number f) (calls_in s))) (at_this c.call.number f c.call refl ∙ sym is ∙ ap (λ (z : Kept). z.call) (sym same) ∙ q.3)
              (among_map (at_number c.call.number f) c.call (calls_in s) (sorted_mem s.slots key c was)))
          | inr h ↦ (let old : kept_at s q.0 ≡ Some q.1 = sym (up.others q.0 h.1) ∙ q.2 in
              let apart : (q.1.call).number ≢ c.call.number = λ e. h.1 (one q.0 key q.1 c old was e) in
              subst (λ z. Among z (map (at_number c.call.number f) (calls_in s))) (at_other c.call.number f (q.1.call) apart ∙ q.3)
              (among_map (at_number c.call.number f) (q.1.call) (calls_in s) (sorted_mem s.slots q.0 q.1 old)))
        ]

    from : (k : Call) → Among k (map (at_number c.call.number f) (calls_in s)) → Among k (calls_in s')
    from k m =
        let r = map_among (at_number c.call.number f) k (calls_in s) m in
        let q = mem_sorted s.slots r.0 r.1 in
        elim (eqb_tells q.0 key) [
          | inl h ↦ (let both : Some q.1 ≡ Some c = sym q.2 ∙ subst (λ j. kept_at s j ≡ Some c) (sym h.1) was in let same : q.1 ≡ c = cc in
              let this : c.call ≡ r.0 = ap (λ (z : Kept). z.call) (sym same) ∙ q.3 in
              subst (λ z. Among z (calls_in s')) (is ∙ sym (at_this c.call.number f c.call refl) ∙ ap (at_number c.call.number f) this ∙ r.2) (sorted_mem s'.slots key d up.changed))
          | inr h ↦ (let apart : (q.1.call).number ≢ c.call.number = λ e. h.1 (one q.0 key q.1 c q.2 was e) in
              subst (λ z. Among z (calls_in s')) (sym (at_other c.call.number f (q.1.call) apart) ∙ ap (at_number c.call.number f) q.3 ∙ r.2)
              (sorted_mem s'.slots q.0 q.1 (up.others q.0 h.1 ∙ q.2)))
        ]

-- A call goes out

pub filter_mem : (t : Call → Bool) (xs : List Call) (x : Call) → Among x xs → t x ≡ true → Among x (filter t xs)
filter_mem t [] x m h = elim m [ ]
filter_mem t (y ∷ xs) x (inl e) h = subst (λ b. Among x (cond b (y ∷ filter t xs) (filter t xs))) (sym (ap t e ∙ h)) (inl e)
filter_mem t (y ∷ xs) x (inr m) h = elim (t y) as (λ b. Among x (cond b (y ∷ filter t xs) (filter t xs))) [ true ↦ inr (filter_mem t xs x m h) | false ↦ filter_mem t xs x m h ]

pub after_removal : (s s' : KeptCalls) (key : ℕ) (c : Kept) → AreDistinct s.slots → AreDistinct s'.slots → kept_at s key ≡ Some c → Changes s s' key None
    → calls_in s' ≡ filter (λ k. not (is_numbered c.call.number k)) (calls_in s)
after_removal s s' key c one one' was up =
    rising_same (calls_in s') (filter (λ k. not (is_numbered c.call.number k)) (calls_in s)) (rising_sorted s'.slots one') (rising_filter (λ k. not (is_numbered c.call.number k)) (calls_in s) (rising_sorted s.slots one)) to from
  where
    to : (k : Call) → Among k (calls_in s') → Among k (filter (λ k. not (is_numbered c.call.number k)) (calls_in s))
    to k m =
        let q = mem_sorted s'.slots k m in
        let other : q.0 ≢ key = λ e. let bad : None ≡ Some q.1 = sym up.changed ∙ subst (λ j. kept_at s' j ≡ Some q.1) e q.2 in cc in
        let old : kept_at s q.0 ≡ Some q.1 = sym (up.others q.0 other) ∙ q.2 in
        let apart : k.number ≢ c.call.number = λ e. other (one q.0 key q.1 c old was (ap (λ (z : Call). z.number) q.3 ∙ e)) in
        let t : (k.number == c.call.number) ≡ false = grind (arith, nat_tests) in
        filter_mem (λ k. not (is_numbered c.call.number k)) (calls_in s) k (subst (λ z. Among z (calls_in s)) q.3 (sorted_mem s.slots q.0 q.1 old)) (ap not t)

    from : (k : Call) → Among k (filter (λ k. not (is_numbered c.call.number k)) (calls_in s)) → Among k (calls_in s')
    from k m =
        let r = filter_among (λ k. not (is_numbered c.call.number k)) k (calls_in s) m in
        let q = mem_sorted s.slots k r.0 in
        let other : q.0 ≢ key = λ e.
        let both : Some q.1 ≡ Some c = sym q.2 ∙ subst (λ j. kept_at s j ≡ Some c) (sym e) was in
        let same : q.1 ≡ c = cc in
        let n : k.number ≡ c.call.number = ap (λ (z : Call). z.number) (sym q.3 ∙ ap (λ (z : Kept). z.call) same) in
        let bad : false ≡ true = sym (ap not (eq-eqb k.number c.call.number n)) ∙ r.1 in cc in
        subst (λ z. Among z (calls_in s')) q.3 (sorted_mem s'.slots q.0 q.1 (up.others q.0 other ∙ q.2))

-- A slab and an index stay tied

module _ {S : Type 0} where
  pub tied_after_put : (s s' : KeptCalls) (m m' : IndexMap ℕ ℕ S) (key : ℕ) (c : Kept) → IsTied s.slots m → kept_at s key ≡ None → index.get nat_eq m c.call.number ≡ None
      → Changes s s' key (Some c) → ((q : ℕ) → index.get nat_eq m' q ≡ cond (nat_eq c.call.number q) (Some key) (index.get nat_eq m q)) → IsTied s'.slots m'
  tied_after_put s s' m m' key c tied vacant absent up at = record {
    leads = λ n k e. elim (eqb_tells c.call.number n) [
      | inl h ↦ (let yes : Some k ≡ Some key = sym e ∙ at n ∙ ap (λ b. cond b (Some key) (index.get nat_eq m n)) h.0 in let same : k ≡ key = cc in
          (c, subst (λ j. kept_at s' j ≡ Some c) (sym same) up.changed, h.1))
      | inr h ↦ (let old : index.get nat_eq m n ≡ Some k = sym (ap (λ b. cond b (Some key) (index.get nat_eq m n)) h.0) ∙ sym (at n) ∙ e in
          let l = tied.leads n k old in
          let other : k ≢ key = λ same. let bad : None ≡ Some l.0 = sym vacant ∙ subst (λ j. kept_at s j ≡ Some l.0) same l.1 in cc in
          (l.0, up.others k other ∙ l.1, l.2))
    ];
    whole = λ k d e. elim (eqb_tells k key) [
      | inl h ↦ (let same : Some d ≡ Some c = sym e ∙ subst (λ j. kept_at s' j ≡ Some c) (sym h.1) up.changed in let is : d ≡ c = cc in
          subst (λ (x : Kept). index.get nat_eq m' x.call.number ≡ Some k) (sym is) (at c.call.number ∙ ap (λ b. cond b (Some key) (index.get nat_eq m c.call.number)) (eq-eqb c.call.number c.call.number refl) ∙ ap Some (sym h.1)))
      | inr h ↦ (let old : index.get nat_eq m d.call.number ≡ Some k = tied.whole k d (sym (up.others k h.1) ∙ e) in
          let apart : eqb c.call.number d.call.number ≡ false = elim (eqb_tells c.call.number d.call.number) [
            | inl y ↦ absurd (let bad : None ≡ Some k = sym absent ∙ subst (λ n. index.get nat_eq m n ≡ Some k) (sym y.1) old in cc)
            | inr y ↦ y.0
          ] in
          at d.call.number ∙ ap (λ b. cond b (Some key) (index.get nat_eq m d.call.number)) apart ∙ old)
    ];
  }

  -- no call has a number above those of the list
  pub absent_above : (s : KeptCalls) (m : IndexMap ℕ ℕ S) (n : ℕ) → IsTied s.slots m → ((d : Call) → Among d (calls_in s) → d.number < n) → index.get nat_eq m n ≡ None
  absent_above s m n tied above = by (index.get nat_eq m n) refl
    where
      by : (r : Option ℕ) → index.get nat_eq m n ≡ r → r ≡ None
      by None e = refl
      by (Some key) e = let l = tied.leads n key e in let a = above (l.0.call) (sorted_mem s.slots key l.0 l.1) in let b = l.2 in absurd (omega arith)

  -- a call changes, and keeps its number
  pub tied_after_change : (s s' : KeptCalls) (m : IndexMap ℕ ℕ S) (key : ℕ) (c d : Kept) → IsTied s.slots m → kept_at s key ≡ Some c → d.call.number ≡ c.call.number
      → Changes s s' key (Some d) → IsTied s'.slots m
  tied_after_change s s' m key c d tied was same up = record {
    leads = λ n k e. let l = tied.leads n k e in elim (eqb_tells k key) [
      | inl h ↦ (let both : Some l.0 ≡ Some c = sym l.1 ∙ subst (λ j. kept_at s j ≡ Some c) (sym h.1) was in let one : l.0 ≡ c = cc in
          (d, subst (λ j. kept_at s' j ≡ Some d) (sym h.1) up.changed, same ∙ ap (λ (z : Kept). z.call.number) (sym one) ∙ l.2))
      | inr h ↦ (l.0, up.others k h.1 ∙ l.1, l.2)
    ];
    whole = λ k e q. elim (eqb_tells k key) [
      | inl h ↦ (let both : Some e ≡ Some d = sym q ∙ subst (λ j. kept_at s' j ≡ Some d) (sym h.1) up.changed in let one : e ≡ d = cc in
          subst (λ n. index.get nat_eq m n ≡ Some k) (sym (ap (λ (z : Kept). z.call.number) one ∙ same)) (tied.whole k c (subst (λ j. kept_at s j ≡ Some c) (sym h.1) was)))
      | inr h ↦ tied.whole k e (sym (up.others k h.1) ∙ q)
    ];
  }

  -- the key of a number, with what the slab has there
  pub found_at : (s : KeptCalls) (m : IndexMap ℕ ℕ S) → IsTied s.slots m → (n key : ℕ) → index.get nat_eq m n ≡ Some key
      → (c : Kept) × (kept_at s key ≡ Some c) × (call_of n (calls_in s) ≡ Some c.call) × (c.call.number ≡ n)
  found_at s m tied n key e =
      let l = tied.leads n key e in
      (l.0, l.1, looked_up s m tied n ∙ ap (λ r. seen_if (at_key s r)) e ∙ ap seen_if l.1, l.2)

  pub none_at : (s : KeptCalls) (m : IndexMap ℕ ℕ S) → IsTied s.slots m → (n : ℕ) → index.get nat_eq m n ≡ None → call_of n (calls_in s) ≡ None
  none_at s m tied n e = looked_up s m tied n ∙ ap (λ r. seen_if (at_key s r)) e

  -- a slab and an index stay tied when a call goes out of both
  pub tied_after_remove : (s s' : KeptCalls) (m m' : IndexMap ℕ ℕ S) (n key : ℕ) → IsTied s.slots m → index.get nat_eq m n ≡ Some key
      → Changes s s' key None → ((q : ℕ) → index.get nat_eq m' q ≡ cond (nat_eq n q) None (index.get nat_eq m q)) → IsTied s'.slots m'
  tied_after_remove s s' m m' n key tied there up at = record {
    leads = λ q k e. elim (eqb_tells n q) [
      | inl h ↦ absurd (let bad : None ≡ Some k = sym (at q ∙ ap (λ b. cond b None (index.get nat_eq m q)) h.0) ∙ e in cc)
      | inr h ↦ (let old : index.get nat_eq m q ≡ Some k = sym (ap (λ b. cond b None (index.get nat_eq m q)) h.0) ∙ sym (at q) ∙ e in
          let l = tied.leads q k old in
          let mine = tied.leads n key there in
          let other : k ≢ key = λ same. let both : Some mine.0 ≡ Some l.0 = sym mine.1 ∙ subst (λ j. kept_at s j ≡ Some l.0) same l.1 in
          let one : mine.0 ≡ l.0 = cc in h.1 (sym mine.2 ∙ ap (λ (x : Kept). x.call.number) one ∙ l.2) in
          (l.0, up.others k other ∙ l.1, l.2))
    ];
    whole = λ k d e. elim (eqb_tells k key) [
      | inl h ↦ absurd (let bad : None ≡ Some d = sym up.changed ∙ subst (λ j. kept_at s' j ≡ Some d) h.1 e in cc)
      | inr h ↦ (let old : index.get nat_eq m d.call.number ≡ Some k = tied.whole k d (sym (up.others k h.1) ∙ e) in
          let apart : eqb n d.call.number ≡ false = elim (eqb_tells n d.call.number) [
            | inl y ↦ absurd (let both : Some key ≡ Some k = sym there ∙ subst (λ j. index.get nat_eq m j ≡ Some k) (sym y.1) old in
                let same : key ≡ k = cc in h.1 (sym same))
            | inr y ↦ y.0
          ] in
          at d.call.number ∙ ap (λ b. cond b None (index.get nat_eq m d.call.number)) apart ∙ old)
    ];
  }

pub on_ok : {T E : Type 0} (r : Result T E) {A B : Type 0} → (A → B) → OnOk r A → OnOk r B
on_ok (Ok x) f h = f h
on_ok (Err e) f h = tt

pub on_err : {T E : Type 0} (r : Result T E) {A B : Type 0} → (A → B) → OnErr r A → OnErr r B
on_err (Ok x) f h = tt
on_err (Err e) f h = f h

-- two changes at one key are one
pub twice : (s s1 s2 : KeptCalls) (key : ℕ) (d e : Option Kept) → Changes s s1 key d → Changes s1 s2 key e → Changes s s2 key e
twice s s1 s2 key d e up up' = record { changed = up'.changed; others = λ k ne. up'.others k ne ∙ up.others k ne }

-- how many they are
pub length_put : (c : Call) (ds : List Call) → length (put_call c ds) ≡ suc (length ds)
length_put c [] = refl
length_put c (d ∷ ds) = elim (nat_lt c.number d.number) as (λ b. length (if b then c ∷ d ∷ ds else d ∷ put_call c ds) ≡ suc (length (d ∷ ds))) [ true ↦ refl | false ↦ ap suc (length_put c ds) ]

-- the calls of a rising list are in different slots
apart_put : (c : Call) (ds : List Call) → IsRising (put_call c ds) → IsRising ds × ((d : Call) → Among d ds → d.number ≢ c.number)
apart_put c [] r = (tt, λ d m. elim m [ ])
apart_put c (e ∷ ds) r =
    elim (nat_lt c.number e.number) as (λ b. IsRising (if b then c ∷ e ∷ ds else e ∷ put_call c ds) → IsRising (e ∷ ds) × ((d : Call) → Among d (e ∷ ds) → d.number ≢ c.number)) [
      | true ↦ λ r. (r.1, λ d m same. let below = r.0 d m in absurd (omega arith))
      | false ↦ λ r.
          let later = apart_put c ds r.1 in
          let above = r.0 c (put_mem c ds c (inl refl)) in (
            (λ d m. r.0 d (put_mem c ds d (inr m)), later.0),
            λ d m. elim m [ inl q ↦ (λ same. let t = ap (λ (z : Call). z.number) q in absurd (omega arith)) | inr m ↦ later.1 d m ],
          )
    ] r

pub distinct_rising : (slots : List (Option Kept)) → IsRising (sorted_calls slots) → AreDistinct slots
distinct_rising [] r i j c d a b e = absurd (cc)
distinct_rising (None ∷ slots) r zero j c d a b e = absurd (cc)
distinct_rising (None ∷ slots) r (suc i) zero c d a b e = absurd (cc)
distinct_rising (None ∷ slots) r (suc i) (suc j) c d a b e = ap suc (distinct_rising slots r i j c d a b e)
distinct_rising (Some k ∷ slots) r zero zero c d a b e = refl
distinct_rising (Some k ∷ slots) r zero (suc j) c d a b e =
    let same : k ≡ c = cc in
    absurd ((apart_put k.call (sorted_calls slots) r).1 d.call (sorted_mem slots j d b) (sym e ∙ ap (λ (z : Kept). z.call.number) (sym same)))
distinct_rising (Some k ∷ slots) r (suc i) zero c d a b e =
    let same : k ≡ d = cc in
    absurd ((apart_put k.call (sorted_calls slots) r).1 c.call (sorted_mem slots i c a) (e ∙ ap (λ (z : Kept). z.call.number) (sym same)))
distinct_rising (Some k ∷ slots) r (suc i) (suc j) c d a b e = ap suc (distinct_rising slots (apart_put k.call (sorted_calls slots) r).0 i j c d a b e)
