-- The ranges of a plan, once sorted, are in order.
use Rattle.std.proofs.Common.{◌≡◌, ◌≢◌, ℕ, zero, suc, ◌<◌, Bool, true, ◌⊎◌, List, [], ◌∷◌, length, get_or, Some, refl, ap, sym, ◌∙◌, subst, inl, inr, arith}
use Rattle.std.proofs.Math.ListN.{set}
use Rattle.tx_lines.proofs.Common.{false≢true, slice_get, IsPermutation, at_most, LineRange, is_lt, Ordering, key_cmp, start_of, IsInOrder}
use Rattle.std.proofs.lemmas.List.Sorted.{IsPermutation-keeps}
use Rattle.std.proofs.lemmas.Option.{slice_get-get_or}
use Rattle.std.specs.List.{swap}
use Rattle.tx_plan.specs.Plan.{Plan}
use Rattle.tx_plan.specs.Rules.{IsPlan, IsRange, EachPair, AreSeparate}
use Rattle.tx_plan.proofs.ByIndex.{all_at}
use Rattle.std.specs.List.Sorted.{IsSortedBy}
use Rattle.std.specs.Cmp.{IsStrictWeakOrder}
use Rattle.std.specs.Fn.{Called, ComparesAs}
use denote.Param.Members.{Mut}
use denote.Ref.{Bor}
use Rattle.std.proofs.lemmas.Fn.{always_returns_same}

-- of one code and width, and sharing a number
pub record Shares (r q : LineRange) : Type 0 where
  pub code : r.code ≡ q.code
  pub width : length r.low ≡ length q.low
  pub first : at_most q.low r.high ≡ true
  pub second : at_most r.low q.high ≡ true

shares_back : (r q : LineRange) → Shares r q → Shares q r
shares_back r q h = record { code = sym h.code; width = sym h.width; first = h.second; second = h.first }

separate : (r q : LineRange) → AreSeparate r q → Shares r q → ⊥
separate r q a h = elim (a h.code h.width) [ inl x ↦ false≢true (sym x ∙ h.first) | inr y ↦ false≢true (sym y ∙ h.second) ]

-- no two of a list share
abbrev Apart : List LineRange → Type 0
Apart xs = (i j : ℕ) (r q : LineRange) → slice_get xs i ≡ Some r → slice_get xs j ≡ Some q → Shares r q → i ≡ j

apart_pairs : (xs : List LineRange) → EachPair AreSeparate xs → Apart xs
apart_pairs [] h i j r q a b s = let bad : ⊥ = cc in absurd bad
apart_pairs (x ∷ xs) h zero zero r q a b s = refl
apart_pairs (x ∷ xs) h zero (suc j) r q a b s = let e : x ≡ r = cc in absurd (separate r q (subst (λ w. AreSeparate w q) e (all_at (AreSeparate x) xs j q h.0 b)) s)
apart_pairs (x ∷ xs) h (suc i) zero r q a b s = let e : x ≡ q = cc in absurd (separate q r (subst (λ w. AreSeparate w r) e (all_at (AreSeparate x) xs i r h.0 a)) (shares_back r q s))
apart_pairs (x ∷ xs) h (suc i) (suc j) r q a b s = ap suc (apart_pairs xs h.1 i j r q a b s)

-- SWAPS

set_get : {A : Type 0} (xs : List A) (i : ℕ) (a : A) (k : ℕ) (x : A) → slice_get (set xs i a) k ≡ Some x → ((k ≡ i) × (x ≡ a)) ⊎ ((k ≢ i) × (slice_get xs k ≡ Some x))
set_get [] i a k x h = let bad : ⊥ = cc in absurd bad
set_get (y ∷ xs) zero a zero x h = inl (refl, (let e : x ≡ a = cc in e))
set_get (y ∷ xs) zero a (suc k) x h = inr ((λ e. let bad : ⊥ = omega (arith, e) in bad), h)
set_get (y ∷ xs) (suc i) a zero x h = inr ((λ e. let bad : ⊥ = omega (arith, e) in bad), h)
set_get (y ∷ xs) (suc i) a (suc k) x h = elim (set_get xs i a k x h) [
  | inl l ↦ inl (ap suc l.0, l.1)
  | inr r ↦ inr ((λ e. r.0 (let z : k ≡ i = omega (arith, e) in z)), r.1)
]

-- where an element of a list with two swapped stood
record Stood {A : Type 0} (xs : List A) (a b k : ℕ) (x : A) : Type 0 where
  from : ℕ
  there : slice_get xs from ≡ Some x
  moved : ((k ≡ b) × (from ≡ a)) ⊎ ((k ≢ b) × (k ≡ a) × (from ≡ b)) ⊎ ((k ≢ b) × (k ≢ a) × (from ≡ k))

stood : {A : Type 0} (xs : List A) (a b k : ℕ) (x : A) → a < length xs → b < length xs → slice_get (swap xs a b) k ≡ Some x → Stood xs a b k x
stood [] a b k x l m h = absurd (omega (arith, l))
stood (d ∷ xs) a b k x l m h =
    elim (set_get (set (d ∷ xs) a (get_or (d ∷ xs) b d)) b (get_or (d ∷ xs) a d) k x h) [
      | inl p ↦ record { from = a; there = slice_get-get_or (d ∷ xs) a d l ∙ ap (λ w. Some w) (sym p.1); moved = inl (p.0, refl) }
      | inr p ↦ elim (set_get (d ∷ xs) a (get_or (d ∷ xs) b d) k x p.1) [
        | inl q ↦ record { from = b; there = slice_get-get_or (d ∷ xs) b d m ∙ ap (λ w. Some w) (sym q.1); moved = inr (inl (p.0, q.0, refl)) }
        | inr q ↦ record { from = k; there = q.1; moved = inr (inr (p.0, q.0, refl)) }
      ]
    ]

-- two that stood at one index stand at one index
abbrev Moves : ℕ → ℕ → ℕ → ℕ → Type 0
Moves a b k f = ((k ≡ b) × (f ≡ a)) ⊎ ((k ≢ b) × (k ≡ a) × (f ≡ b)) ⊎ ((k ≢ b) × (k ≢ a) × (f ≡ k))

one_index : (a b i j f g : ℕ) → Moves a b i f → Moves a b j g → f ≡ g → i ≡ j
one_index a b i j f g p q e =
    elim p [
      | inl x ↦ elim q [
        | inl y ↦ x.0 ∙ sym y.0
        | inr z ↦ elim z [ inl y ↦ absurd (y.0 (y.1 ∙ sym x.1 ∙ e ∙ y.2)) | inr y ↦ absurd (y.1 (sym y.2 ∙ sym e ∙ x.1)) ]
      ]
      | inr w ↦ elim w [
        | inl x ↦ elim q [
          | inl y ↦ absurd (x.0 (x.1 ∙ sym y.1 ∙ sym e ∙ x.2))
          | inr z ↦ elim z [ inl y ↦ x.1 ∙ sym y.1 | inr y ↦ absurd (y.0 (sym y.2 ∙ sym e ∙ x.2)) ]
        ]
        | inr x ↦ elim q [
          | inl y ↦ absurd (x.1 (sym x.2 ∙ e ∙ y.1))
          | inr z ↦ elim z [ inl y ↦ absurd (x.0 (sym x.2 ∙ e ∙ y.2)) | inr y ↦ sym x.2 ∙ e ∙ y.2 ]
        ]
      ]
    ]

apart_swap : (xs : List LineRange) (a b : ℕ) → a < length xs → b < length xs → Apart xs → Apart (swap xs a b)
apart_swap xs a b l m h i j r q x y s =
    let u = stood xs a b i r l m x in
    let v = stood xs a b j q l m y in
    one_index a b i j u.from v.from u.moved v.moved (h u.from v.from r q u.there v.there s)

apart_sorted : (xs ys : List LineRange) → IsPermutation xs ys → Apart xs → Apart ys
apart_sorted xs ys p h = IsPermutation-keeps xs Apart h apart_swap ys p

-- each goes upward
abbrev Upward : List LineRange → Type 0
Upward xs = (i : ℕ) (r : LineRange) → slice_get xs i ≡ Some r → at_most r.low r.high ≡ true

upward_swap : (xs : List LineRange) (a b : ℕ) → a < length xs → b < length xs → Upward xs → Upward (swap xs a b)
upward_swap xs a b l m h i r x = let u = stood xs a b i r l m x in h u.from r u.there

pub arranged : (p : Plan) (rules : IsPlan p) (ys : List LineRange) → IsPermutation p.ranges ys → IsSortedBy (λ r q. is_lt (key_cmp (start_of r) (start_of q))) ys → IsInOrder ys
arranged p rules ys perm sorted =
    let alone = apart_sorted p.ranges ys perm (apart_pairs p.ranges rules.ranges_apart) in
    record {
      sorted = sorted;
      upward = IsPermutation-keeps p.ranges Upward (λ i r at. (all_at (IsRange p) p.ranges i r rules.ranges at).order) upward_swap ys perm;
      apart = λ i j r q x y c w f s. alone i j r q x y (record { code = c; width = w; first = f; second = s });
    }

-- what a sort by a total order says, where each call answers by it
pub sorted_from_clause : {X F : Type 0} {g : Mut F (Bor X × (Bor X × Unit {0})) Ordering} {f : F} (R : X → X → Ordering) (xs : List X) → IsStrictWeakOrder (λ x y. is_lt (R x y))
    → ((lt : X → X → Bool) → IsStrictWeakOrder lt → ComparesAs g lt f → IsSortedBy lt xs) → ((a : Bor X × (Bor X × Unit {0})) (r : Ordering) (q : F) → Called g f a r q → (r ≡ R a.0.now a.1.0.now) × (q ≡ f)) → IsSortedBy (λ x y. is_lt (R x y)) xs
sorted_from_clause {g = g} {f = f} R xs order up h = up (λ x y. is_lt (R x y)) order (always_returns_same g (λ a r. is_lt r ≡ is_lt (R a.0.now a.1.0.now)) f (λ a r q k. (ap is_lt (h a r q k).0, (h a r q k).1)))
