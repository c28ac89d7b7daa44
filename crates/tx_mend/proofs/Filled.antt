-- Lists that are filled up.
use Rattle.tx_mend.proofs.Common.{◌≡◌, ◌≢◌, ℕ, ◌<◌, ◌≤◌, true, false, nat_lt, ◌==◌, eqb-true, eq-eqb, List, [], ◌∷◌, ◌++◌, length, inl, inr, refl, sym, ap, subst, arith, length-append, append-nil, append_assoc, Bool, ◌∙◌, if◌then◌else◌, list_any, AllByRecursion, or_cases, or_left, or_right, false≢true, ltb-true, lt-ltb, Among, EachPair, among_left, among_right, among_cases, all_among, among_all, AllDiffer}
use borrow.Author.Tests.{ltb-false}
use Rattle.tx_plan.proofs.Lists.{all_put}
use Rattle.tx_plan.proofs.ByIndex.{pairs_put}
use Rattle.tx_mend.specs.Lists.{put, filled}

pub stands : (g : ℕ) (xs : List ℕ) → list_any (λ h. h == g) xs ≡ true → Among g xs
stands g [] h = absurd (false≢true h)
stands g (x ∷ xs) h = elim (or_cases (x == g) (list_any (λ h. h == g) xs) h) [ inl a ↦ inl (eqb-true x g a) | inr b ↦ inr (stands g xs b) ]

pub stands_any : (g : ℕ) (xs : List ℕ) → Among g xs → list_any (λ h. h == g) xs ≡ true
stands_any g [] m = absurd m
stands_any g (x ∷ xs) (inl e) = or_left (x == g) (list_any (λ h. h == g) xs) (eq-eqb x g e)
stands_any g (x ∷ xs) (inr m) = or_right (x == g) (list_any (λ h. h == g) xs) (stands_any g xs m)

module _ (spare : ℕ) where
  -- why a group is not appended, or that it is
  pub data IsPut (list : List ℕ) (g : ℕ) (new : List ℕ) : Type 0 where
    full : spare < length list → new ≡ list → IsPut list g new
    there : Among g list → new ≡ list → IsPut list g new
    new : length list ≤ spare → (Among g list → ⊥) → new ≡ list ++ g ∷ [] → IsPut list g new

  pub is_put : (list : List ℕ) (g : ℕ) → IsPut list g (put spare list g)
  is_put list g =
      elim (nat_lt spare (length list)) as (λ b. nat_lt spare (length list) ≡ b → IsPut list g (if b then list else (if list_any (λ h. h == g) list then list else list ++ g ∷ []))) [
        | true ↦ λ e. full (ltb-true spare (length list) e) refl
        | false ↦ λ e.
            elim (list_any (λ h. h == g) list) as (λ b. list_any (λ h. h == g) list ≡ b → IsPut list g (if b then list else list ++ g ∷ [])) [
              | true ↦ λ t. there (stands g list t) refl
              | false ↦ λ t. new (omega (arith, ltb-false)) (λ m. let a = stands_any g list m in let bad : ⊥ = cc in bad) refl
            ] refl
      ] refl

  put_all : (P : ℕ → Type 0) (list : List ℕ) (g : ℕ) (k : List ℕ) → IsPut list g k → AllByRecursion P list → P g → AllByRecursion P k
  put_all P list g k (full _ e) a h = subst (AllByRecursion P) (sym e) a
  put_all P list g k (there _ e) a h = subst (AllByRecursion P) (sym e) a
  put_all P list g k (new _ _ e) a h = subst (AllByRecursion P) (sym e) (all_put P list g a h)

  put_differs : (list : List ℕ) (g : ℕ) (k : List ℕ) → IsPut list g k → AllDiffer list → AllDiffer k
  put_differs list g k (full _ e) d = subst AllDiffer (sym e) d
  put_differs list g k (there _ e) d = subst AllDiffer (sym e) d
  put_differs list g k (new _ fresh e) d = subst AllDiffer (sym e) (pairs_put (λ x y. x ≢ y) list g d (among_all (λ x. x ≢ g) list (λ x m q. fresh (subst (λ (y : ℕ). Among y list) q m))))

  put_few : (list : List ℕ) (g most : ℕ) (k : List ℕ) → spare < most → IsPut list g k → length list ≤ most → length k ≤ most
  put_few list g most k s (full _ e) l = subst (λ (k : List ℕ). length k ≤ most) (sym e) l
  put_few list g most k s (there _ e) l = subst (λ (k : List ℕ). length k ≤ most) (sym e) l
  put_few list g most k s (new few _ e) l = subst (λ (k : List ℕ). length k ≤ most) (sym e) (let a = length-append list (g ∷ []) in omega arith)

  put_grows : (list : List ℕ) (g : ℕ) (k : List ℕ) → IsPut list g k → length list ≤ length k
  put_grows list g k (full _ e) = subst (λ (k : List ℕ). length list ≤ length k) (sym e) (omega arith)
  put_grows list g k (there _ e) = subst (λ (k : List ℕ). length list ≤ length k) (sym e) (omega arith)
  put_grows list g k (new few _ e) = subst (λ (k : List ℕ). length list ≤ length k) (sym e) (let a = length-append list (g ∷ []) in omega arith)

  put_keeps : (list : List ℕ) (g : ℕ) (k : List ℕ) → IsPut list g k → (h : ℕ) → Among h list → Among h k
  put_keeps list g k (full _ e) h m = subst (λ (k : List ℕ). Among h k) (sym e) m
  put_keeps list g k (there _ e) h m = subst (λ (k : List ℕ). Among h k) (sym e) m
  put_keeps list g k (new _ _ e) h m = subst (λ (k : List ℕ). Among h k) (sym e) (among_left h list (g ∷ []) m)

  put_has : (list : List ℕ) (g : ℕ) (k : List ℕ) → IsPut list g k → length k ≤ spare → Among g k
  put_has list g k (full s e) l = absurd (let a = ap length e in omega arith)
  put_has list g k (there m e) l = subst (λ (k : List ℕ). Among g k) (sym e) m
  put_has list g k (new _ _ e) l = subst (λ (k : List ℕ). Among g k) (sym e) (among_right g list (g ∷ []) (inl refl))

  pub filled_all : (P : ℕ → Type 0) (list gs : List ℕ) → AllByRecursion P list → AllByRecursion P gs → AllByRecursion P (filled spare list gs)
  filled_all P list [] a b = a
  filled_all P list (g ∷ gs) a b = filled_all P (put spare list g) gs (put_all P list g (put spare list g) (is_put list g) a b.0) b.1

  pub filled_differs : (list gs : List ℕ) → AllDiffer list → AllDiffer (filled spare list gs)
  filled_differs list [] d = d
  filled_differs list (g ∷ gs) d = filled_differs (put spare list g) gs (put_differs list g (put spare list g) (is_put list g) d)

  pub filled_few : (list gs : List ℕ) (most : ℕ) → spare < most → length list ≤ most → length (filled spare list gs) ≤ most
  filled_few list [] most s l = l
  filled_few list (g ∷ gs) most s l = filled_few (put spare list g) gs most s (put_few list g most (put spare list g) s (is_put list g) l)

  filled_grows : (list gs : List ℕ) → length list ≤ length (filled spare list gs)
  filled_grows list [] = omega arith
  filled_grows list (g ∷ gs) = let a = put_grows list g (put spare list g) (is_put list g) in let b = filled_grows (put spare list g) gs in omega arith

  pub filled_keeps : (list gs : List ℕ) (h : ℕ) → Among h list → Among h (filled spare list gs)
  filled_keeps list [] h m = m
  filled_keeps list (g ∷ gs) h m = filled_keeps (put spare list g) gs h (put_keeps list g (put spare list g) (is_put list g) h m)

  -- a list that has no more than spare groups has got all of them
  pub filled_has : (list gs : List ℕ) → length (filled spare list gs) ≤ spare → (h : ℕ) → Among h gs → Among h (filled spare list gs)
  filled_has list [] l h m = absurd m
  filled_has list (g ∷ gs) l h (inl e) =
      let grown = filled_grows (put spare list g) gs in
      filled_keeps (put spare list g) gs h (subst (λ (y : ℕ). Among y (put spare list g)) e (put_has list g (put spare list g) (is_put list g) (omega arith)))
  filled_has list (g ∷ gs) l h (inr m) = filled_has (put spare list g) gs l h m

  -- a list that has more than spare groups stays
  pub filled_full : (list gs : List ℕ) → spare < length list → filled spare list gs ≡ list
  filled_full list [] h = refl
  filled_full list (g ∷ gs) h = ap (λ (b : Bool). filled spare (if b then list else (if list_any (λ h. h == g) list then list else list ++ g ∷ [])) gs) (lt-ltb spare (length list) h) ∙ filled_full list gs h

  -- what is filled up begins with the list, and goes on with some of the groups
  pub record Extends (list gs new : List ℕ) : Type 0 where
    pub added : List ℕ
    pub is : new ≡ list ++ added
    pub of : (h : ℕ) → Among h added → Among h gs

  put_extends : (list : List ℕ) (g : ℕ) (k : List ℕ) → IsPut list g k → Extends list (g ∷ []) k
  put_extends list g k (full _ e) = record { added = []; is = e ∙ sym (append-nil list); of = λ h m. absurd m }
  put_extends list g k (there _ e) = record { added = []; is = e ∙ sym (append-nil list); of = λ h m. absurd m }
  put_extends list g k (new _ _ e) = record { added = g ∷ []; is = e; of = λ h m. m }

  pub filled_extends : (list gs : List ℕ) → Extends list gs (filled spare list gs)
  filled_extends list [] = record { added = []; is = sym (append-nil list); of = λ h m. absurd m }
  filled_extends list (g ∷ gs) =
      let a = put_extends list g (put spare list g) (is_put list g) in
      let b = filled_extends (put spare list g) gs in
      record {
        added = a.added ++ b.added;
        is = b.is ∙ ap (λ l. l ++ b.added) a.is ∙ append_assoc list a.added b.added;
        of = λ h m. elim (among_cases h a.added b.added m) [
          | inl k ↦ elim (a.of h k) [ inl e ↦ inl e | inr bad ↦ absurd bad ]
          | inr k ↦ inr (b.of h k)
        ];
      }

  -- what is added keeps the order of the groups
  pub filled_pairs : (R : ℕ → ℕ → Type 0) (list gs : List ℕ) → EachPair R gs → EachPair R (filled_extends list gs).added
  unfolding filled_extends put_extends
  filled_pairs R list [] d = tt
  filled_pairs R list (g ∷ gs) d = by (filled_pairs R (put spare list g) gs d.1) (is_put list g)
    where
      rest : Extends (put spare list g) gs (filled spare (put spare list g) gs)
      rest = filled_extends (put spare list g) gs

      by : EachPair R rest.added → (i : IsPut list g (put spare list g)) → EachPair R ((put_extends list g (put spare list g) i).added ++ rest.added)
      by k (full s e) = k
      by k (there m e) = k
      by k (new few fresh e) = (among_all (R g) rest.added (λ h m. all_among (R g) gs h d.0 (rest.of h m)), k)
