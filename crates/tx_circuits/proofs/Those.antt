-- The members of a list that pass a test, as a set: what it contains, and what becomes of it where the test changes.
use Rattle.tx_circuits.proofs.Common.{◌≡◌, ◌≢◌, Bool, true, false, not, ◌&&◌, ◌||◌, List, [], ◌∷◌, filter, ◌⊎◌, eq_by_cmp, is_eq, Equal, IsTotalOrder, Equal-is, refl, sym, ap, ◌∙◌, inl, inr, cond, tied_itself, those}
use Rattle.std.specs.declared.cmp.Ordering.{Ordering}
use Rattle.std.specs.List.{list_any}
use Rattle.std.specs.FinSet.{empty, contains, insert, remove, retain, same_set, contains-empty, contains-insert, contains-remove, contains-retain, contains-from_list}
use Rattle.std.proofs.Math.Bool.{or-true, and-false}
use Rattle.tx_circuits.proofs.Ordered.{In}

module _ {K : Type 0} {R : K → K → Ordering} (o : IsTotalOrder R) (exact : (x y : K) → R x y ≡ Equal → x ≡ y) where
  tie_is : (x y : K) → eq_by_cmp R x y ≡ true → x ≡ y
  tie_is x y e = exact x y ((Equal-is (R x y)).0 e)

  tied : (x y : K) → x ≡ y → eq_by_cmp R x y ≡ true
  tied x y e = ap (λ z. eq_by_cmp R x z) (sym e) ∙ ap is_eq (tied_itself o x)

  -- two keys are one, or not
  pub tells : (x y : K) → ((eq_by_cmp R x y ≡ true) × (x ≡ y)) ⊎ ((eq_by_cmp R x y ≡ false) × (x ≢ y))
  tells x y = elim (eq_by_cmp R x y) as (λ b. eq_by_cmp R x y ≡ b → ((b ≡ true) × (x ≡ y)) ⊎ ((b ≡ false) × (x ≢ y))) [
    | true ↦ λ e. inl (refl, tie_is x y e)
    | false ↦ λ e. inr (refl, λ same. let bad : true ≡ false = sym (tied x y same) ∙ e in absurd cc)
  ] refl

  any_of : (q : K) (xs : List K) → In xs q → list_any (eq_by_cmp R q) xs ≡ true
  any_of q [] i = absurd i
  any_of q (x ∷ xs) (inl e) = ap (λ b. b || list_any (eq_by_cmp R q) xs) (tied q x (sym e))
  any_of q (x ∷ xs) (inr i) = ap (λ b. eq_by_cmp R q x || b) (any_of q xs i) ∙ or-true (eq_by_cmp R q x)

  module _ (p : K → Bool) where
    -- in the list of those that pass, and in the list, and passing
    any_filter : (q : K) (xs : List K) → list_any (eq_by_cmp R q) (filter p xs) ≡ (p q && list_any (eq_by_cmp R q) xs)
    any_filter q [] = sym (and-false (p q))
    any_filter q (x ∷ xs) = step q x xs (any_filter q xs) (tells q x)
      where
        skip : (q x : K) (xs : List K) (ih : list_any (eq_by_cmp R q) (filter p xs) ≡ (p q && list_any (eq_by_cmp R q) xs)) (b : Bool) → p x ≡ b → eq_by_cmp R q x ≡ false
            → list_any (eq_by_cmp R q) (filter p (x ∷ xs)) ≡ (p q && (eq_by_cmp R q x || list_any (eq_by_cmp R q) xs))
        skip q x xs ih true e ne =
            ap (λ b. list_any (eq_by_cmp R q) (cond b (x ∷ filter p xs) (filter p xs))) e ∙ ap (λ b. b || list_any (eq_by_cmp R q) (filter p xs)) ne ∙ ih
            ∙ sym (ap (λ b. p q && (b || list_any (eq_by_cmp R q) xs)) ne)
        skip q x xs ih false e ne =
            ap (λ b. list_any (eq_by_cmp R q) (cond b (x ∷ filter p xs) (filter p xs))) e ∙ ih ∙ sym (ap (λ b. p q && (b || list_any (eq_by_cmp R q) xs)) ne)

        hit : (q x : K) (xs : List K) (ih : list_any (eq_by_cmp R q) (filter p xs) ≡ (p q && list_any (eq_by_cmp R q) xs)) (b : Bool) → p q ≡ b → eq_by_cmp R q x ≡ true → q ≡ x
            → list_any (eq_by_cmp R q) (filter p (x ∷ xs)) ≡ (p q && (eq_by_cmp R q x || list_any (eq_by_cmp R q) xs))
        hit q x xs ih true e t same =
            ap (λ b. list_any (eq_by_cmp R q) (cond b (x ∷ filter p xs) (filter p xs))) (ap p (sym same) ∙ e) ∙ ap (λ b. b || list_any (eq_by_cmp R q) (filter p xs)) t
            ∙ sym ((λ i. e i && (t i || list_any (eq_by_cmp R q) xs)))
        hit q x xs ih false e t same =
            ap (λ b. list_any (eq_by_cmp R q) (cond b (x ∷ filter p xs) (filter p xs))) (ap p (sym same) ∙ e) ∙ ih ∙ ap (λ b. b && list_any (eq_by_cmp R q) xs) e
            ∙ sym (ap (λ b. b && (eq_by_cmp R q x || list_any (eq_by_cmp R q) xs)) e)

        step : (q x : K) (xs : List K) (ih : list_any (eq_by_cmp R q) (filter p xs) ≡ (p q && list_any (eq_by_cmp R q) xs)) → ((eq_by_cmp R q x ≡ true) × (q ≡ x)) ⊎ ((eq_by_cmp R q x ≡ false) × (q ≢ x))
            → list_any (eq_by_cmp R q) (filter p (x ∷ xs)) ≡ (p q && (eq_by_cmp R q x || list_any (eq_by_cmp R q) xs))
        step q x xs ih (inl t) = hit q x xs ih (p q) refl t.0 t.1
        step q x xs ih (inr t) = skip q x xs ih (p x) refl t.0

    pub contains_those : (xs : List K) → ((q : K) → p q ≡ true → In xs q) → (q : K) → contains (those {R = R} p xs) q ≡ p q
    contains_those xs each q =
        contains-from_list o (filter p xs) q ∙ any_filter q xs ∙ elim (p q) as (λ b. p q ≡ b → (b && list_any (eq_by_cmp R q) xs) ≡ b) [
          | true ↦ λ e. any_of q xs (each q e)
          | false ↦ λ e. refl
        ] refl

  module _ (p p' : K → Bool) (xs xs' : List K) (each : (q : K) → p q ≡ true → In xs q) (each' : (q : K) → p' q ≡ true → In xs' q) where
    was : (q : K) → contains (those {R = R} p xs) q ≡ p q
    was = contains_those p xs each

    is : (q : K) → contains (those {R = R} p' xs') q ≡ p' q
    is = contains_those p' xs' each'

    pub those_stay : ((q : K) → p' q ≡ p q) → those {R = R} p' xs' ≡ those p xs
    those_stay same = same_set o exact (those p' xs') (those p xs) (λ q. is q ∙ same q ∙ sym (was q))

    pub those_retained : (keeps : K → Bool) → ((q : K) → p' q ≡ (p q && keeps q)) → those {R = R} p' xs' ≡ retain (those p xs) keeps
    those_retained keeps same =
        same_set o exact (those p' xs') (retain (those p xs) keeps) (λ q. is q ∙ same q ∙ ap (λ b. b && keeps q) (sym (was q))
        ∙ sym (contains-retain (those p xs) keeps q (λ x e. ap keeps (sym (exact q x e)))))

    module _ (x : K) (rest : (q : K) → q ≢ x → p' q ≡ p q) where
      pub those_inserted : p' x ≡ true → those {R = R} p' xs' ≡ insert (those p xs) x
      those_inserted now =
          same_set o exact (those p' xs') (insert (those p xs) x) (λ q. is q ∙ elim (tells q x) [
            | inl t ↦ ap p' t.1 ∙ now ∙ sym (ap (λ b. b || contains (those {R = R} p xs) q) t.0)
            | inr t ↦ rest q t.1 ∙ sym (was q) ∙ sym (ap (λ b. b || contains (those {R = R} p xs) q) t.0)
          ] ∙ sym (contains-insert o (those p xs) x q))

      pub those_removed : p' x ≡ false → those {R = R} p' xs' ≡ remove (those p xs) x
      those_removed now =
          same_set o exact (those p' xs') (remove (those p xs) x) (λ q. is q ∙ elim (tells q x) [
            | inl t ↦ ap p' t.1 ∙ now ∙ sym (ap (λ b. not b && contains (those {R = R} p xs) q) t.0)
            | inr t ↦ rest q t.1 ∙ sym (was q) ∙ sym (ap (λ b. not b && contains (those {R = R} p xs) q) t.0)
          ] ∙ sym (contains-remove o (those p xs) x q))

  -- nothing passes
  pub those_none : (p : K → Bool) (xs : List K) → ((q : K) → p q ≡ false) → those {R = R} p xs ≡ empty
  those_none p xs none = same_set o exact (those p xs) empty (λ q. contains_those p xs (λ r e. let bad : true ≡ false = sym e ∙ none r in absurd cc) q ∙ none q ∙ sym (contains-empty R q))
