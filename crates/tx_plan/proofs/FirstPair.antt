-- The least ambiguous pair is the first that is found where each text of three figures is looked up
-- in order, and its first two.
use Rattle.tx_plan.proofs.Common.{◌≡◌, ℕ, zero, suc, ◌+◌, ◌-◌, ◌*◌, ◌<◌, ◌/◌, ◌%◌, true, false, ◌⊎◌, ◌&&◌, nat_lt, cond, ◌==◌, List, [], ◌∷◌, take, length, get_or, Option, Some, None, refl, ap, sym, ◌∙◌, inl, inr, eqb-true, arith, false≢true, false_from_ne_true, and_parts, nat_tests, position-Some, bytes_eq-Decides, slice_get, bytes_eq, Ordering, Less, Equal, Greater, slice_cmp, Plan, Code, code_named, IsPlan, IsCode, is_code, is_prefix, pair_cmp, ambiguous_of, pair_at, IsAmbiguousAt}
use Rattle.std.proofs.lemmas.Option.{same_Some, slice_get-get_or}
use Rattle.std.specs.Option.{option_zip, is_some}
use Rattle.std.specs.Ordering.{ordering_then, is_lt, nat_cmp}
use borrow.Author.Count.{below_more}
use Rattle.tx_plan.specs.Numbers.{three_figures}
use Rattle.tx_plan.proofs.Ambiguity.{ambiguous-none, ambiguous-some}
use Rattle.tx_plan.proofs.ByIndex.{all_at, index_back}
use Rattle.tx_plan.proofs.Spelled.{IsSpelled, two, three, spelled, prefix_is_take, take_is_prefix}

-- TEXTS OF THREE FIGURES

abbrev order : List ℕ → List ℕ → Ordering
order s t = slice_cmp nat_cmp s t

-- texts are ordered by their first figures, and then whole
order_take : (n : ℕ) (s t : List ℕ) → ordering_then (order (take n s) (take n t)) (order s t) ≡ order s t
order_take zero s t = refl
order_take (suc n) [] [] = refl
order_take (suc n) [] (y ∷ t) = refl
order_take (suc n) (x ∷ s) [] = refl
order_take (suc n) (x ∷ s) (y ∷ t) = by (nat_cmp x y) (order_take n s t)
  where
    by : (o : Ordering) → ordering_then (order (take n s) (take n t)) (order s t) ≡ order s t → ordering_then (ordering_then o (order (take n s) (take n t))) (ordering_then o (order s t)) ≡ ordering_then o (order s t)
    by Less h = refl
    by Greater h = refl
    by Equal h = h

-- what decides the order of two texts
first_apart : (x y : ℕ) (o : Ordering) → is_lt (ordering_then (nat_cmp x y) o) ≡ true → (x < y) ⊎ ((x ≡ y) × (is_lt o ≡ true))
first_apart x y o h =
    elim (nat_lt x y) as (λ b. nat_lt x y ≡ b → is_lt (ordering_then (cond b Less (cond (x == y) Equal Greater)) o) ≡ true → (x < y) ⊎ ((x ≡ y) × (is_lt o ≡ true))) [
      | true ↦ λ t k. inl (grind (arith, nat_tests))
      | false ↦ λ t k. elim (x == y) as (λ b. (x == y) ≡ b → is_lt (ordering_then (cond b Equal Greater) o) ≡ true → (x < y) ⊎ ((x ≡ y) × (is_lt o ≡ true))) [
        | true ↦ λ u l. inr (eqb-true x y u, l)
        | false ↦ λ u l. absurd (false≢true l)
      ] refl k
    ] refl h

-- the texts of numbers are in the order of these
in_order : (m n : ℕ) → m < 1000 → n < 1000 → is_lt (order (three_figures m) (three_figures n)) ≡ true → m < n
in_order m n l k e =
    elim (first_apart (48 + m / 100) (48 + n / 100) _ e) [
      | inl lt ↦ omega arith
      | inr r ↦ elim (first_apart (48 + m / 10 % 10) (48 + n / 10 % 10) _ r.1) [
        | inl lt ↦ (let same = r.0 in omega arith)
        | inr w ↦ elim (first_apart (48 + m % 10) (48 + n % 10) Equal w.1) [
          | inl lt ↦ (let same = r.0 in let alike = w.0 in omega arith)
          | inr bad ↦ absurd (false≢true bad.1)
        ]
      ]
    ]

-- a code and one that it begins: all figures but the last, of a number's text
record IsNumbered (s t : List ℕ) : Type 0 where
  front : s ≡ take 2 t
  number : ℕ
  low : number < 1000
  whole : t ≡ three_figures number

numbered : (s t : List ℕ) → IsSpelled s → IsSpelled t → (is_prefix s t && nat_lt (length s) (length t)) ≡ true → IsNumbered s t
numbered s t (two a b f g) (three x y z k l m) h =
    let n = 100 * (x - 48) + (10 * (y - 48) + (z - 48)) in
    let p : x ≡ 48 + n / 100 = omega arith in
    let q : y ≡ 48 + n / 10 % 10 = omega arith in
    let r : z ≡ 48 + n % 10 = omega arith in
    record {
      front = prefix_is_take (a ∷ b ∷ []) (x ∷ y ∷ z ∷ []) (and_parts (is_prefix (a ∷ b ∷ []) (x ∷ y ∷ z ∷ [])) true h).0;
      number = n;
      low = omega arith;
      whole = λ i. p i ∷ q i ∷ r i ∷ [];
    }
numbered s t (three a b c f g k) (two x y l m) h = absurd (false≢true (and_parts (is_prefix s t) (nat_lt (length s) (length t)) h).1)
numbered s t u v h = absurd (false≢true (and_parts (is_prefix s t) (nat_lt (length s) (length t)) h).1)

-- A LOOK-UP

-- it finds just the codes, each by its figures
pub record IsLookUp (codes : List Code) (find : List ℕ → Option ℕ) : Type 0 where
  pub forms : (i : ℕ) (c : Code) → slice_get codes i ≡ Some c → is_code c.figures ≡ true
  pub finds : (i : ℕ) (c : Code) → slice_get codes i ≡ Some c → find c.figures ≡ Some i
  pub found : (text : List ℕ) (i : ℕ) → find text ≡ Some i → (c : Code) × (slice_get codes i ≡ Some c) × (c.figures ≡ text)

pub plan_look_up : (p : Plan) → IsPlan p → IsLookUp p.codes (code_named p)
plan_look_up p rules = record {
  forms = λ i c at. (all_at (IsCode p) p.codes i c rules.codes at).figures;
  finds = λ i c at. index_back (λ (r : Code). r.figures) p.codes i c rules.codes_differ at;
  found = λ text i h.
      let none : Code = record { figures = []; home = 0 } in
      let at = position-Some (λ (r : Code). bytes_eq text r.figures) p.codes i none h in
      (get_or p.codes i none, slice_get-get_or p.codes i none at.0, sym ((bytes_eq-Decides text (get_or p.codes i none).figures).0 at.1));
}

-- what is found by a number's text, and by its first two figures
abbrev pub both : (List ℕ → Option ℕ) → ℕ → Option (ℕ × ℕ)
both find m = option_zip (find (take 2 (three_figures m))) (find (three_figures m))

pub found_both : (find : List ℕ → Option ℕ) (m : ℕ) (longer : List ℕ) (a b : Option ℕ) (o : Option (ℕ × ℕ)) → longer ≡ three_figures m → a ≡ find (take 2 longer) → b ≡ find longer → o ≡ option_zip a b → o ≡ both find m
found_both find m longer a b o text first second zip = zip ∙ (λ k. option_zip ((first ∙ ap (λ t. find (take 2 t)) text) k) ((second ∙ ap find text) k))

-- the longer code of each ambiguous pair is no text of a number below this one
abbrev pub NoneBelow : List Code → ℕ → Type 0
NoneBelow codes m = (n : ℕ) → n < m → (i j : ℕ) (c d : Code) → IsAmbiguousAt codes i j c d → d.figures ≡ three_figures n → ⊥

pub none_below : (codes : List Code) → NoneBelow codes 0
none_below codes n l = absurd (omega arith)

module _ (codes : List Code) (find : List ℕ → Option ℕ) (is : IsLookUp codes find) where
  parts : (i j : ℕ) (c d : Code) → IsAmbiguousAt codes i j c d → IsNumbered c.figures d.figures
  parts i j c d h = numbered c.figures d.figures (spelled c.figures (is.forms i c h.first)) (spelled d.figures (is.forms j d h.second)) h.begins

  pub none_there : (m : ℕ) (o : Option (ℕ × ℕ)) → NoneBelow codes m → o ≡ both find m → is_some o ≡ false → NoneBelow codes (m + 1)
  none_there m o before is_both none = below_more (λ n. (i j : ℕ) (c d : Code) → IsAmbiguousAt codes i j c d → d.figures ≡ three_figures n → ⊥) m before (λ i j c d h e.
      let short = ap find (sym ((parts i j c d h).front ∙ ap (take 2) e)) ∙ is.finds i c h.first in
      let long = ap find (sym e) ∙ is.finds j d h.second in
      false≢true (sym none ∙ ap is_some is_both ∙ (λ k. is_some (option_zip (short k) (long k)))))

  differ : (i j : ℕ) (c d : Code) → slice_get codes i ≡ Some c → slice_get codes j ≡ Some d → c.figures ≡ d.figures → i ≡ j
  differ i j c d at there e = same_Some i j (sym (is.finds i c at) ∙ ap find e ∙ is.finds j d there)

  -- the first pair is the least
  first_pair : (m i j : ℕ) → m < 1000 → NoneBelow codes m → find (take 2 (three_figures m)) ≡ Some i → find (three_figures m) ≡ Some j → ambiguous_of codes ≡ Some (i, j)
  first_pair m i j low before short long =
      let c = is.found (take 2 (three_figures m)) i short in
      let d = is.found (three_figures m) j long in
      ambiguous-some codes differ i j c.0 d.0
      (record { first = c.1; second = d.1; begins = (λ k. is_prefix (c.2 k) (d.2 k) && nat_lt (length (c.2 k)) (length (d.2 k))) ∙ ap (λ b. b && true) (take_is_prefix 2 (three_figures m)) })
      (λ k l e f h. false_from_ne_true _ (λ lt.
      let n = parts k l e f h in
      before n.number (in_order n.number m n.low low
      (sym (ap is_lt ((λ w. ordering_then (order ((n.front ∙ ap (take 2) n.whole) w) (c.2 w)) (order (n.whole w) (d.2 w))) ∙ order_take 2 (three_figures n.number) (three_figures m))) ∙ lt)) k l e f h n.whole))

  pub paired : (m : ℕ) (o : Option (ℕ × ℕ)) → m < 1000 → NoneBelow codes m → o ≡ both find m → is_some o ≡ true → o ≡ ambiguous_of codes
  paired m o low before is_both some = is_both ∙ by (find (take 2 (three_figures m))) refl (find (three_figures m)) refl (sym (ap is_some is_both) ∙ some)
    where
      by : (a : Option ℕ) → find (take 2 (three_figures m)) ≡ a → (b : Option ℕ) → find (three_figures m) ≡ b → is_some (option_zip a b) ≡ true → option_zip a b ≡ ambiguous_of codes
      by None s b l h = absurd (false≢true h)
      by (Some i) s None l h = absurd (false≢true h)
      by (Some i) s (Some j) l h = sym (first_pair m i j low before s l)

  pub no_pair : NoneBelow codes 1000 → ambiguous_of codes ≡ None
  no_pair none = ambiguous-none codes (λ i j c d h. let n = parts i j c d h in none n.number n.low i j c d h n.whole)
