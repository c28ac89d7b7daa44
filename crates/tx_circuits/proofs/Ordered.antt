-- A list is linked exactly where its links give the free indexes in order.
use Rattle.tx_circuits.proofs.Common.{◌≡◌, ℕ, zero, suc, ◌+◌, ◌-◌, ◌<◌, ◌≤◌, ◌⊎◌, inl, inr, Bool, true, false, cond, List, [], ◌∷◌, ◌++◌, Option, Some, None, refl, sym, ap, subst, ◌∙◌, arith, filter, Way, Up, Down, IsFirst, IsLinked, Follows, rank_of, rising, falling, in_order}
use Rattle.tx_circuits.proofs.Linked.{le_or}

abbrev pub In : {A : Type 0} → List A → A → Type 0
In [] k = ⊥
In (x ∷ xs) k = (x ≡ k) ⊎ In xs k

-- the ranks rise, from `low` on
abbrev pub Rises : (ℕ → ℕ) → ℕ → List ℕ → Type 0
Rises rank low [] = Unit {0}
Rises rank low (x ∷ xs) = (low ≤ rank x) × Rises rank (rank x + 1) xs

rises_from : (rank : ℕ → ℕ) (low : ℕ) (xs : List ℕ) (k : ℕ) → Rises rank low xs → In xs k → low ≤ rank k
rises_from rank low [] k r h = absurd h
rises_from rank low (x ∷ xs) k r (inl e) = subst (λ j. low ≤ rank j) e r.0
rises_from rank low (x ∷ xs) k r (inr h) = (let a : rank x + 1 ≤ rank k = rises_from rank (rank x + 1) xs k r.1 h in let b : low ≤ rank x = r.0 in omega arith)

rises_lower : (rank : ℕ → ℕ) (low low' : ℕ) (xs : List ℕ) → low' ≤ low → Rises rank low xs → Rises rank low' xs
rises_lower rank low low' [] le r = r
rises_lower rank low low' (x ∷ xs) le r = (let a : low ≤ rank x = r.0 in omega arith, r.1)

-- the list holds exactly the free indexes of rank `low` and more, in order
pub record Holds (free : ℕ → Bool) (rank : ℕ → ℕ) (low : ℕ) (xs : List ℕ) : Type 0 where
  pub rises : Rises rank low xs
  pub all : (k : ℕ) → In xs k → free k ≡ true
  pub each : (k : ℕ) → free k ≡ true → low ≤ rank k → In xs k

module _ (free : ℕ → Bool) (rank : ℕ → ℕ) where
  rest_holds : (low x : ℕ) (xs : List ℕ) → Holds free rank low (x ∷ xs) → Holds free rank (rank x + 1) xs
  rest_holds low x xs h = record {
    rises = h.rises.1;
    all = λ k i. h.all k (inr i);
    each = λ k f le. later k le (h.each k f (let b : low ≤ rank x = h.rises.0 in omega arith));
  }
    where
      later : (k : ℕ) → rank x + 1 ≤ rank k → In (x ∷ xs) k → In xs k
      later k le (inl e) = absurd (let same : rank x ≡ rank k = ap rank e in omega arith)
      later k le (inr i) = i

  module _ (next : Option ℕ → Option ℕ) where
    -- from the links to the list
    module _ (list : IsLinked free rank next) where
      follows : (xs : List ℕ) (low : ℕ) (q r : Option ℕ) → next q ≡ r → Holds free rank low xs → IsFirst free rank low r → Follows next q xs
      follows [] low q None e h l = e
      follows [] low q (Some j) e h l = absurd (h.each j l.0 l.1)
      follows (x ∷ xs) low q None e h l = absurd (let a : rank x < low = l x (h.all x (inl refl)) in let b : low ≤ rank x = h.rises.0 in omega arith)
      follows (x ∷ xs) low q (Some j) e h l =
          (e ∙ ap Some (at (h.each j l.0 l.1)), follows xs (rank x + 1) (Some x) (next (Some x)) refl (rest_holds low x xs h) (list.goes_on x (h.all x (inl refl))))
        where
          at : In (x ∷ xs) j → j ≡ x
          at (inl e) = sym e
          at (inr i) = absurd (let a : rank x + 1 ≤ rank j = rises_from rank (rank x + 1) xs j h.rises.1 i in let b : rank j ≤ rank x = l.2 x (h.all x (inl refl)) h.rises.0 in omega arith)

      pub followed : (xs : List ℕ) → Holds free rank 0 xs → Follows next None xs
      followed xs h = follows xs 0 None (next None) refl h list.begins

    -- from the list to the links
    first_of : (xs : List ℕ) (low : ℕ) (q : Option ℕ) → Follows next q xs → Holds free rank low xs → IsFirst free rank low (next q)
    first_of [] low q f h = subst (IsFirst free rank low) (sym f) (λ k g. elim (le_or low (rank k)) [ inl y ↦ absurd (h.each k g y) | inr y ↦ y ])
    first_of (x ∷ xs) low q f h = subst (IsFirst free rank low) (sym f.0) (h.all x (inl refl), h.rises.0, λ k g le. least k (h.each k g le))
      where
        least : (k : ℕ) → In (x ∷ xs) k → rank x ≤ rank k
        least k (inl e) = (let same : rank x ≡ rank k = ap rank e in omega arith)
        least k (inr i) = (let a : rank x + 1 ≤ rank k = rises_from rank (rank x + 1) xs k h.rises.1 i in omega arith)

    goes : (xs : List ℕ) (low : ℕ) (q : Option ℕ) → Follows next q xs → Holds free rank low xs → (k : ℕ) → In xs k → IsFirst free rank (rank k + 1) (next (Some k))
    goes [] low q f h k i = absurd i
    goes (x ∷ xs) low q f h k (inl e) = subst (λ j. IsFirst free rank (rank j + 1) (next (Some j))) e (first_of xs (rank x + 1) (Some x) f.1 (rest_holds low x xs h))
    goes (x ∷ xs) low q f h k (inr i) = goes xs (rank x + 1) (Some x) f.1 (rest_holds low x xs h) k i

    pub linked : (xs : List ℕ) → Follows next None xs → Holds free rank 0 xs → IsLinked free rank next
    linked xs f h = record {
      begins = first_of xs 0 None f h;
      goes_on = λ k g. goes xs 0 None f h k (h.each k g (omega arith));
    }

-- THE INDEXES IN ORDER

pub in_append : {A : Type 0} (xs ys : List A) (k : A) → In (xs ++ ys) k → In xs k ⊎ In ys k
in_append [] ys k i = inr i
in_append (x ∷ xs) ys k (inl e) = inl (inl e)
in_append (x ∷ xs) ys k (inr i) = elim (in_append xs ys k i) [ inl a ↦ inl (inr a) | inr b ↦ inr b ]

pub from_left : {A : Type 0} (xs ys : List A) (k : A) → In xs k → In (xs ++ ys) k
from_left [] ys k i = absurd i
from_left (x ∷ xs) ys k (inl e) = inl e
from_left (x ∷ xs) ys k (inr i) = inr (from_left xs ys k i)

pub from_right : {A : Type 0} (xs ys : List A) (k : A) → In ys k → In (xs ++ ys) k
from_right [] ys k i = i
from_right (x ∷ xs) ys k i = inr (from_right xs ys k i)

pub below : (w : Way) (n k : ℕ) → In (in_order w n) k → k < n
below Up zero k i = absurd i
below Up (suc n) k i = elim (in_append (rising n) (n ∷ []) k i) [
  | inl a ↦ (let b : k < n = below Up n k a in omega arith)
  | inr b ↦ elim b [ inl e ↦ (let s : n ≡ k = e in omega arith) | inr x ↦ absurd x ]
]
below Down zero k i = absurd i
below Down (suc n) k (inl e) = (let s : n ≡ k = e in omega arith)
below Down (suc n) k (inr i) = (let b : k < n = below Down n k i in omega arith)

pub member : (w : Way) (n k : ℕ) → k < n → In (in_order w n) k
member Up zero k lt = absurd (omega arith)
member Up (suc n) k lt = elim (le_or n k) [
  | inl y ↦ from_right (rising n) (n ∷ []) k (inl (omega arith))
  | inr y ↦ from_left (rising n) (n ∷ []) k (member Up n k y)
]
member Down zero k lt = absurd (omega arith)
member Down (suc n) k lt = elim (le_or n k) [ inl y ↦ inl (omega arith) | inr y ↦ inr (member Down n k y) ]

rises_push : (rank : ℕ → ℕ) (low : ℕ) (xs : List ℕ) (y : ℕ) → Rises rank low xs → low ≤ rank y → ((k : ℕ) → In xs k → rank k < rank y) → Rises rank low (xs ++ y ∷ [])
rises_push rank low [] y r le all = (le, tt)
rises_push rank low (x ∷ xs) y r le all = (r.0, rises_push rank (rank x + 1) xs y r.1 (let a : rank x < rank y = all x (inl refl) in omega arith) (λ k i. all k (inr i)))

up_rises : (n : ℕ) → Rises (rank_of Up) 0 (rising n)
up_rises zero = tt
up_rises (suc n) = rises_push (rank_of Up) 0 (rising n) n (up_rises n) (omega arith) (λ k i. below Up n k i)

down_rises : (n low : ℕ) → low + n ≤ 256 → Rises (rank_of Down) low (falling n)
down_rises zero low le = tt
down_rises (suc n) low le = (let a : low ≤ 255 - n = omega arith in a, down_rises n (255 - n + 1) (omega arith))

order_rises : (w : Way) (n : ℕ) → n ≤ 240 → Rises (rank_of w) 0 (in_order w n)
order_rises Up n le = up_rises n
order_rises Down n le = down_rises n 0 (omega arith)

module _ (p : ℕ → Bool) where
  filtered : (xs : List ℕ) (k : ℕ) → In (filter p xs) k → In xs k × (p k ≡ true)
  filtered [] k i = absurd i
  filtered (x ∷ xs) k i = elim (p x) as (λ b. p x ≡ b → In (cond b (x ∷ filter p xs) (filter p xs)) k → In (x ∷ xs) k × (p k ≡ true)) [
    | true ↦ λ e i. elim i [ inl s ↦ (inl s, subst (λ j. p j ≡ true) s e) | inr j ↦ (inr (filtered xs k j).0, (filtered xs k j).1) ]
    | false ↦ λ e i. (inr (filtered xs k i).0, (filtered xs k i).1)
  ] refl i

  passes : (xs : List ℕ) (k : ℕ) → In xs k → p k ≡ true → In (filter p xs) k
  passes [] k i t = absurd i
  passes (x ∷ xs) k i t = elim (p x) as (λ b. p x ≡ b → In (x ∷ xs) k → In (cond b (x ∷ filter p xs) (filter p xs)) k) [
    | true ↦ λ e i. elim i [ inl s ↦ inl s | inr j ↦ inr (passes xs k j t) ]
    | false ↦ λ e i. elim i [ inl s ↦ absurd (let bad : true ≡ false = sym t ∙ subst (λ j. p j ≡ false) s e in cc) | inr j ↦ passes xs k j t ]
  ] refl i

  rises_filter : (rank : ℕ → ℕ) (low : ℕ) (xs : List ℕ) → Rises rank low xs → Rises rank low (filter p xs)
  rises_filter rank low [] r = tt
  rises_filter rank low (x ∷ xs) r = elim (p x) as (λ b. Rises rank low (cond b (x ∷ filter p xs) (filter p xs))) [
    | true ↦ (r.0, rises_filter rank (rank x + 1) xs r.1)
    | false ↦ rises_lower rank (rank x + 1) low (filter p xs) (let a : low ≤ rank x = r.0 in omega arith) (rises_filter rank (rank x + 1) xs r.1)
  ]

-- the free indexes of n, in order
pub in_order_holds : (w : Way) (free : ℕ → Bool) (n : ℕ) → n ≤ 240 → ((k : ℕ) → free k ≡ true → k < n) → Holds free (rank_of w) 0 (filter free (in_order w n))
in_order_holds w free n short within = record {
  rises = rises_filter free (rank_of w) 0 (in_order w n) (order_rises w n short);
  all = λ k i. (filtered free (in_order w n) k i).1;
  each = λ k f le. passes free (in_order w n) k (member w n k (within k f)) f;
}
