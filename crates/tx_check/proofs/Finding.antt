-- Lists of what is found at each index: when they are empty, and what comes first.
use Rattle.tx_check.proofs.Common.{find, if◌then◌else◌, option_map, CheckFault, fault_if, foremost}
use Rattle.std.proofs.Common.{◌≡◌, ℕ, zero, suc, ◌+◌, ◌-◌, ◌<◌, Bool, true, false, List, [], ◌∷◌, ◌++◌, Option, Some, None, is_some, ◌≢◌, length, get_or, refl, sym, ap, ◌∙◌, subst, arith, below_more, get_or-set_other, get_or-set_same}
use Rattle.std.specs.List.{slice_set, AllByRecursion, flat_map, range_with_len}
use Rattle.tx_check.specs.declared.lists.Firsts.{Firsts}
use Rattle.tx_check.specs.inner.Firsts.{or_later, firsts_of, firsts_or}
use Rattle.tx_text.proofs.Ranges.{flat_map-range_at, flat_map-range_more}

pub fault_if-none : (b : Bool) (x : CheckFault) → fault_if b x ≡ [] → b ≡ false
fault_if-none true x h = absurd (let z : ⊥ = cc in z)
fault_if-none false x h = refl

pub fault_if-false : (b : Bool) (x : CheckFault) → b ≡ false → fault_if b x ≡ []
fault_if-false b x h = rw h refl

module _ {A : Type 0} where
  pub append_none : (xs ys : List A) → xs ++ ys ≡ [] → (xs ≡ []) × (ys ≡ [])
  append_none [] ys h = (refl, h)
  append_none (x ∷ xs) ys h = absurd (let z : ⊥ = cc in z)

  pub none_append : (xs ys : List A) → xs ≡ [] → ys ≡ [] → xs ++ ys ≡ []
  none_append xs ys h k = rw h k

  range_none : (f : ℕ → List A) (a n : ℕ) → flat_map f (range_with_len a n) ≡ [] → (k : ℕ) → k < n → f (a + k) ≡ []
  range_none f a zero h k l = absurd (omega (arith, l))
  range_none f a (suc n) h zero l =
      let e : a ≡ a + 0 = omega arith in
      subst (λ i. f i ≡ []) e (append_none (f a) (flat_map f (range_with_len (a + 1) n)) h).0
  range_none f a (suc n) h (suc k) l =
      let e : (a + 1) + k ≡ a + suc k = omega arith in
      subst (λ i. f i ≡ []) e (range_none f (a + 1) n (append_none (f a) (flat_map f (range_with_len (a + 1) n)) h).1 k (omega (arith, l)))

  none_range : (f : ℕ → List A) (a n : ℕ) → ((k : ℕ) → k < n → f (a + k) ≡ []) → flat_map f (range_with_len a n) ≡ []
  none_range f a zero h = refl
  none_range f a (suc n) h =
      let e : a + 0 ≡ a = omega arith in
      none_append (f a) (flat_map f (range_with_len (a + 1) n)) (subst (λ i. f i ≡ []) e (h 0 (omega arith)))
      (none_range f (a + 1) n (λ k l. let s : a + suc k ≡ (a + 1) + k = omega arith in subst (λ i. f i ≡ []) s (h (suc k) (omega (arith, l)))))

  -- nothing is found at any index
  pub at_none : (f : ℕ → List A) (n : ℕ) → flat_map f (range_with_len 0 n) ≡ [] → (k : ℕ) → k < n → f k ≡ []
  at_none f n h k l = let e : 0 + k ≡ k = omega arith in subst (λ i. f i ≡ []) e (range_none f 0 n h k l)

  pub none_at : (f : ℕ → List A) (n : ℕ) → ((k : ℕ) → k < n → f k ≡ []) → flat_map f (range_with_len 0 n) ≡ []
  none_at f n h = none_range f 0 n (λ k l. let e : k ≡ 0 + k = omega arith in subst (λ i. f i ≡ []) e (h k l))

module _ {A B : Type 0} (f : A → List B) where
  -- nothing is found at any member
  pub each_none : (xs : List A) → flat_map f xs ≡ [] → AllByRecursion (λ x. f x ≡ []) xs
  each_none [] h = tt
  each_none (x ∷ xs) h = let r = append_none (f x) (flat_map f xs) h in (r.0, each_none xs r.1)

  pub none_each : (xs : List A) → AllByRecursion (λ x. f x ≡ []) xs → flat_map f xs ≡ []
  none_each [] h = refl
  none_each (x ∷ xs) h = none_append (f x) (flat_map f xs) h.0 (none_each xs h.1)

pub all_from : {A : Type 0} (P Q : A → Type 0) → ((x : A) → P x → Q x) → (xs : List A) → AllByRecursion P xs → AllByRecursion Q xs
all_from P Q f [] h = tt
all_from P Q f (x ∷ xs) h = (f x h.0, all_from P Q f xs h.1)

pub all_both : {A : Type 0} (P Q R : A → Type 0) → ((x : A) → P x → Q x → R x) → (xs : List A) → AllByRecursion P xs → AllByRecursion Q xs → AllByRecursion R xs
all_both P Q R f [] h k = tt
all_both P Q R f (x ∷ xs) h k = (f x h.0 k.0, all_both P Q R f xs h.1 k.1)

-- ---- what comes first

pub nothing : (xs : List CheckFault) → foremost xs ≡ None → xs ≡ []
nothing [] h = refl
nothing (x ∷ xs) h = absurd (let z : ⊥ = cc in z)

pub first_append : (xs ys : List CheckFault) → foremost (xs ++ ys) ≡ or_later (foremost xs) (foremost ys)
first_append [] ys = refl
first_append (x ∷ xs) ys = refl

pub first_left : (xs ys : List CheckFault) (x : CheckFault) → foremost xs ≡ Some x → foremost (xs ++ ys) ≡ Some x
first_left [] ys x h = absurd (let z : ⊥ = cc in z)
first_left (y ∷ xs) ys x h = h

pub is_found : (o : Option CheckFault) → is_some o ≡ true → (x : CheckFault) × (o ≡ Some x)
is_found None h = absurd (let z : ⊥ = cc in z)
is_found (Some x) h = (x, refl)

module _ (f : ℕ → List CheckFault) where
  -- nothing was found below an index, and there it was
  pub found_at : (i n x : ℕ) (o : Option CheckFault) → i < n → x ≡ i → o ≡ foremost (f x) → is_some o ≡ true → ((k : ℕ) → k < i → f k ≡ []) → o ≡ foremost (flat_map f (range_with_len 0 n))
  found_at i n x o lt s e h none =
      let y = is_found o h in
      let is : foremost (f i) ≡ Some y.0 = ap (λ k. foremost (f k)) (sym s) ∙ sym e ∙ y.1 in
      let empty = none_at f i none in
      y.1 ∙ sym (ap foremost (flat_map-range_at f i n lt ∙ ap (λ l. l ++ (f i ++ flat_map f (range_with_len (i + 1) (n - (i + 1))))) empty) ∙ first_left (f i) _ y.0 is)

  -- nothing was found below one index more
  pub passed_at : (i x : ℕ) (o : Option CheckFault) → x ≡ i → o ≡ foremost (f x) → is_some o ≡ false → ((k : ℕ) → k < i → f k ≡ []) → (k : ℕ) → k < i + 1 → f k ≡ []
  passed_at i x None s e h none = below_more (λ k. f k ≡ []) i none (ap f (sym s) ∙ nothing (f x) (sym e))
  passed_at i x (Some y) s e h none = absurd (let z : ⊥ = cc in z)

  -- nothing was found
  pub found_none : (n : ℕ) → ((k : ℕ) → k < n → f k ≡ []) → None ≡ foremost (flat_map f (range_with_len 0 n))
  found_none n none = ap foremost (sym (none_at f n none))

  -- what was found first below one index more
  pub first_more : (i : ℕ) → or_later (foremost (flat_map f (range_with_len 0 i))) (foremost (f i)) ≡ foremost (flat_map f (range_with_len 0 (i + 1)))
  first_more i = sym (ap foremost (flat_map-range_more f i) ∙ first_append (flat_map f (range_with_len 0 i)) (f i))

-- the first faults of three kinds below one index more
pub firsts_more : (f g h : ℕ → List CheckFault) (i x : ℕ) (a b r : Firsts) → a ≡ firsts_of (flat_map f (range_with_len 0 i)) (flat_map g (range_with_len 0 i)) (flat_map h (range_with_len 0 i)) → x ≡ i → b ≡ firsts_of (f x) (g x) (h x) → r ≡ firsts_or a b
    → r ≡ firsts_of (flat_map f (range_with_len 0 (i + 1))) (flat_map g (range_with_len 0 (i + 1))) (flat_map h (range_with_len 0 (i + 1)))
firsts_more f g h i x a b r e s k l =
    let u : b ≡ firsts_of (f i) (g i) (h i) = k ∙ ap (λ n. firsts_of (f n) (g n) (h n)) s in
    l ∙ ap (λ w. firsts_or w b) e ∙ ap (firsts_or (firsts_of (flat_map f (range_with_len 0 i)) (flat_map g (range_with_len 0 i)) (flat_map h (range_with_len 0 i)))) u
    ∙ (λ j. record { short = first_more f i j; unranked = first_more g i j; not_lower = first_more h i j })

-- marks that tell a test, one more
pub marked_more : (marks : List Bool) (f : ℕ → Bool) (i x : ℕ) (b : Bool) → i < length marks → x ≡ i → b ≡ f x → ((k : ℕ) → k < i → get_or marks k false ≡ f k) → (k : ℕ) → k < i + 1 → get_or (slice_set marks i b) k false ≡ f k
marked_more marks f i x b lt s e h =
    below_more _ _
    (λ k l. let ne : k ≢ i = omega (arith, l) in rw get_or-set_other (h k l))
    (rw get_or-set_same (e ∙ ap f s))

-- the first fault at the members of a list
pub first_member : {A : Type 0} (t : A → Bool) (fault : A → CheckFault) (xs : List A) → foremost (flat_map (λ g. fault_if (t g) (fault g)) xs) ≡ option_map fault (find t xs)
first_member t fault [] = refl
first_member t fault (x ∷ xs) =
    elim (t x) as (λ b. foremost (fault_if b (fault x) ++ flat_map (λ g. fault_if (t g) (fault g)) xs) ≡ option_map fault (if b then Some x else find t xs)) [
      | true ↦ refl
      | false ↦ first_member t fault xs
    ]
