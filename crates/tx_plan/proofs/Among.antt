-- What is in a list, and in one that is made of another.
use Rattle.tx_plan.proofs.Common.{◌≡◌, ℕ, zero, suc, ◌+◌, ◌<◌, Bool, true, false, ◌⊎◌, List, [], ◌∷◌, ◌++◌, map, length, get_or, Some, cond, refl, ap, sym, ◌∙◌, subst, inl, inr, arith, filter, slice_get, Among}
use Rattle.std.specs.List.{enumerate_from, flat_map, AllByRecursion}

pub among_left : {A : Type 0} (x : A) (xs ys : List A) → Among x xs → Among x (xs ++ ys)
among_left x [] ys h = absurd h
among_left x (z ∷ xs) ys (inl e) = inl e
among_left x (z ∷ xs) ys (inr h) = inr (among_left x xs ys h)

pub among_right : {A : Type 0} (x : A) (xs ys : List A) → Among x ys → Among x (xs ++ ys)
among_right x [] ys h = h
among_right x (z ∷ xs) ys h = inr (among_right x xs ys h)

pub among_cases : {A : Type 0} (x : A) (xs ys : List A) → Among x (xs ++ ys) → Among x xs ⊎ Among x ys
among_cases x [] ys h = inr h
among_cases x (z ∷ xs) ys (inl e) = inl (inl e)
among_cases x (z ∷ xs) ys (inr h) = elim (among_cases x xs ys h) [ inl l ↦ inl (inr l) | inr r ↦ inr r ]

pub among_map : {A B : Type 0} (f : A → B) (x : A) (xs : List A) → Among x xs → Among (f x) (map f xs)
among_map f x [] h = absurd h
among_map f x (z ∷ xs) (inl e) = inl (ap f e)
among_map f x (z ∷ xs) (inr h) = inr (among_map f x xs h)

pub map_among : {A B : Type 0} (f : A → B) (y : B) (xs : List A) → Among y (map f xs) → (x : A) × Among x xs × (f x ≡ y)
map_among f y [] h = absurd h
map_among f y (z ∷ xs) (inl e) = (z, inl refl, e)
map_among f y (z ∷ xs) (inr h) = let r = map_among f y xs h in (r.0, inr r.1, r.2)

pub among_flat : {A B : Type 0} (f : A → List B) (x : A) (y : B) (xs : List A) → Among x xs → Among y (f x) → Among y (flat_map f xs)
among_flat f x y [] h k = absurd h
among_flat f x y (z ∷ xs) (inl e) k = among_left y (f z) (flat_map f xs) (subst (λ w. Among y (f w)) (sym e) k)
among_flat f x y (z ∷ xs) (inr h) k = among_right y (f z) (flat_map f xs) (among_flat f x y xs h k)

pub flat_among : {A B : Type 0} (f : A → List B) (y : B) (xs : List A) → Among y (flat_map f xs) → (x : A) × Among x xs × Among y (f x)
flat_among f y [] h = absurd h
flat_among f y (z ∷ xs) h =
    elim (among_cases y (f z) (flat_map f xs) h) [
      | inl l ↦ (z, inl refl, l)
      | inr r ↦ (let s = flat_among f y xs r in (s.0, inr s.1, s.2))
    ]

pub among_filter : {A : Type 0} (p : A → Bool) (x : A) (xs : List A) → Among x xs → p x ≡ true → Among x (filter p xs)
among_filter p x [] h t = absurd h
among_filter p x (z ∷ xs) (inl e) t = subst (λ b. Among x (cond b (z ∷ filter p xs) (filter p xs))) (sym (ap p e ∙ t)) (inl e)
among_filter p x (z ∷ xs) (inr h) t =
    let rest = among_filter p x xs h t in
    elim (p z) as (λ b. Among x (cond b (z ∷ filter p xs) (filter p xs))) [ true ↦ inr rest | false ↦ rest ]

pub filter_among : {A : Type 0} (p : A → Bool) (x : A) (xs : List A) → Among x (filter p xs) → Among x xs × (p x ≡ true)
filter_among p x [] h = absurd h
filter_among p x (z ∷ xs) h =
    elim (p z) as (λ b. p z ≡ b → Among x (cond b (z ∷ filter p xs) (filter p xs)) → Among x (z ∷ xs) × (p x ≡ true)) [
      | true ↦ λ t h. elim h [ inl e ↦ (inl e, ap p (sym e) ∙ t) | inr k ↦ (let r = filter_among p x xs k in (inr r.0, r.1)) ]
      | false ↦ λ t h. let r = filter_among p x xs h in (inr r.0, r.1)
    ] refl h

pub among_indexes : {A : Type 0} (n i : ℕ) (x : A) (xs : List A) → slice_get xs i ≡ Some x → Among (n + i, x) (enumerate_from n xs)
among_indexes n i x [] h = let bad : ⊥ = cc in absurd bad
among_indexes n zero x (y ∷ xs) h = inl (let e : y ≡ x = cc in let z : n ≡ n + 0 = omega arith in λ k. (z k, e k))
among_indexes n (suc i) x (y ∷ xs) h =
    let z : (n + 1) + i ≡ n + suc i = omega arith in
    inr (subst (λ k. Among (k, x) (enumerate_from (n + 1) xs)) z (among_indexes (n + 1) i x xs h))

pub indexes_among : {A : Type 0} (n : ℕ) (e : ℕ × A) (xs : List A) → Among e (enumerate_from n xs) → (i : ℕ) × (slice_get xs i ≡ Some e.1) × (e.0 ≡ n + i)
indexes_among n e [] h = absurd h
indexes_among n e (y ∷ xs) (inl p) = (0, ap (λ w. Some w.1) p, ap (λ w. w.0) (sym p) ∙ (let z : n ≡ n + 0 = omega arith in z))
indexes_among n e (y ∷ xs) (inr h) = let r = indexes_among (n + 1) e xs h in (suc r.0, r.1, r.2 ∙ (let z : (n + 1) + r.0 ≡ n + suc r.0 = omega arith in z))

pub among_at : {A : Type 0} (xs : List A) (i : ℕ) (x : A) → i < length xs → x ≡ get_or xs i x → Among x xs
among_at [] i x h e = absurd (omega arith)
among_at (y ∷ xs) zero x h e = inl (sym e)
among_at (y ∷ xs) (suc i) x h e = inr (among_at xs i x (omega arith) e)

-- what holds of all members holds of one
pub all_among : {A : Type 0} (P : A → Type 0) (xs : List A) (x : A) → AllByRecursion P xs → Among x xs → P x
all_among P [] x a m = absurd m
all_among P (y ∷ xs) x a (inl e) = subst P e a.0
all_among P (y ∷ xs) x a (inr m) = all_among P xs x a.1 m

pub among_all : {A : Type 0} (P : A → Type 0) (xs : List A) → ((x : A) → Among x xs → P x) → AllByRecursion P xs
among_all P [] h = tt
among_all P (x ∷ xs) h = (h x (inl refl), among_all P xs (λ y m. h y (inr m)))
