-- Lists of numbers in which nothing stands twice.
use Rattle.tx_mend.proofs.Common.{◌≡◌, ◌≢◌, ℕ, zero, suc, ◌+◌, ◌<◌, ◌≤◌, ◌⊎◌, Bool, true, eqb, eq-eqb, List, [], ◌∷◌, ◌++◌, length, inl, inr, refl, sym, ap, ◌∙◌, arith, list_any, list_all, AllByRecursion, range_with_len, cases_lt, or_left, or_right, and_parts, and_from, EachPair, Among, AllDiffer, among_all}
use Rattle.std.specs.Cmp.{nat_eq_equiv}
use Rattle.std.proofs.lemmas.Map.Made.{length-le_from_is_member}
use Rattle.tx_rank.proofs.Unmended.{all_distinct, any_among}

module _ {A : Type 0} where
  pub some_among : (xs : List A) (n : ℕ) → n < length xs → (x : A) × Among x xs
  some_among [] n h = absurd (omega arith)
  some_among (x ∷ xs) n h = (x, inl refl)

  pub pairs_append : (R : A → A → Type 0) (xs ys : List A) → EachPair R xs → EachPair R ys → ((x y : A) → Among x xs → Among y ys → R x y) → EachPair R (xs ++ ys)
  pairs_append R [] ys d e h = e
  pairs_append R (x ∷ xs) ys d e h = (all_append (R x) xs ys d.0 (among_all (R x) ys (λ y m. h x y (inl refl) m)), pairs_append R xs ys d.1 e (λ v y m k. h v y (inr m) k))
    where
      all_append : (P : A → Type 0) (xs ys : List A) → AllByRecursion P xs → AllByRecursion P ys → AllByRecursion P (xs ++ ys)
      all_append P [] ys a b = b
      all_append P (x ∷ xs) ys a b = (a.0, all_append P xs ys a.1 b)

-- NUMBERS

pub among_any : (q : ℕ) (xs : List ℕ) → Among q xs → list_any (eqb q) xs ≡ true
among_any q [] m = absurd m
among_any q (x ∷ xs) (inl e) = or_left (eqb q x) (list_any (eqb q) xs) (eq-eqb q x (sym e))
among_any q (x ∷ xs) (inr m) = or_right (eqb q x) (list_any (eqb q) xs) (among_any q xs m)

-- a list in which nothing stands twice is no longer than one that has all its members
pub fits : (xs ys : List ℕ) → AllDiffer xs → ((g : ℕ) → Among g xs → Among g ys) → length xs ≤ length ys
fits xs ys d h = length-le_from_is_member nat_eq_equiv xs ys (all_distinct xs d) (λ q m. among_any q ys (h q (any_among q xs m)))

-- INDEXES

pub among_range : (a n g : ℕ) → a ≤ g → g < a + n → Among g (range_with_len a n)
among_range a zero g h k = absurd (omega arith)
among_range a (suc n) g h k = elim (cases a g h) [ inl e ↦ inl e | inr l ↦ inr (among_range (a + 1) n g l (omega arith)) ]
  where
    cases : (a g : ℕ) → a ≤ g → (a ≡ g) ⊎ (a + 1 ≤ g)
    cases a g h = elim (cases_lt a g) [ inl l ↦ inr (omega arith) | inr l ↦ inl (omega arith) ]

pub range_among : (a n g : ℕ) → Among g (range_with_len a n) → (a ≤ g) × (g < a + n)
range_among a zero g m = absurd m
range_among a (suc n) g (inl e) = (omega arith, omega arith)
range_among a (suc n) g (inr m) = let i = range_among (a + 1) n g m in let x = i.0 in let y = i.1 in (omega arith, omega arith)

pub range_differs : (a n : ℕ) → AllDiffer (range_with_len a n)
range_differs a zero = tt
range_differs a (suc n) = (among_all (λ y. a ≢ y) (range_with_len (a + 1) n) (λ y m e. let i = range_among (a + 1) n y m in let x = i.0 in absurd (omega arith)), range_differs (a + 1) n)

-- TESTS OF ALL

pub all_holds : (t : ℕ → Bool) (xs : List ℕ) (x : ℕ) → list_all t xs ≡ true → Among x xs → t x ≡ true
all_holds t [] x h m = absurd m
all_holds t (y ∷ xs) x h (inl e) = ap t (sym e) ∙ (and_parts (t y) (list_all t xs) h).0
all_holds t (y ∷ xs) x h (inr m) = all_holds t xs x (and_parts (t y) (list_all t xs) h).1 m

pub holds_all : (t : ℕ → Bool) (xs : List ℕ) → ((x : ℕ) → Among x xs → t x ≡ true) → list_all t xs ≡ true
holds_all t [] h = refl
holds_all t (y ∷ xs) h = and_from (t y) (list_all t xs) (h y (inl refl)) (holds_all t xs (λ x m. h x (inr m)))
