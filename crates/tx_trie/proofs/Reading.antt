-- The longest code that begins a text: its first three figures, or else its first two.
use Rattle.std.proofs.Common.{◌≡◌, ℕ, ◌+◌, ◌≤◌, Bool, true, false, List, [], ◌∷◌, take, length, length-take, min, nat_lt, Option, Some, None, refl, ap, sym, ◌∙◌, subst, inl, inr, arith}
use Rattle.std.proofs.lemmas.Bool.{false≢true}
use Rattle.std.proofs.lemmas.Bool.Decides.{nat_tests}
use Rattle.tx_trie.proofs.Common.{take_min, Code, is_code, IsLookUp, plan_of}
use Rattle.std.specs.Prelude.{slice_get, filter, if◌then◌else◌}
use Rattle.std.specs.List.{enumerate_from}
use Rattle.std.specs.Option.{option_map, is_some}
use Rattle.tx_plan.specs.Among.{Among}
use Rattle.tx_plan.specs.Codes.{is_prefix, codes_before, longer, longest, code_of}
use Rattle.tx_plan.proofs.Absent.{short_code}
use Rattle.tx_plan.proofs.Among.{among_filter, filter_among, among_indexes, indexes_among}
use Rattle.tx_plan.proofs.Longest.{longest_among}
use Rattle.tx_plan.proofs.Spelled.{IsSpelled, two, three, spelled, prefix_is_take, prefix_length, take_is_prefix}

abbrev width : ℕ × Code → ℕ
width e = length e.1.figures

-- THE LONGEST OF SOME CODES

longer_covers : (d g : ℕ × Code) → (e : ℕ × Code) × (longer d (Some g) ≡ Some e) × (width d ≤ width e) × (width g ≤ width e)
longer_covers d g =
    elim (nat_lt (width g) (width d)) as (λ b. nat_lt (width g) (width d) ≡ b → (e : ℕ × Code) × ((if b then Some d else Some g) ≡ Some e) × (width d ≤ width e) × (width g ≤ width e)) [
      | true ↦ λ t. (d, refl, omega arith, grind (arith, nat_tests))
      | false ↦ λ t. (g, refl, grind (arith, nat_tests), omega arith)
    ] refl

covers : (es : List (ℕ × Code)) (f : ℕ × Code) → Among f es → (e : ℕ × Code) × (longest es ≡ Some e) × (width f ≤ width e)
covers [] f m = absurd m
covers (d ∷ es) f (inl is) = by (longest es)
  where
    by : (o : Option (ℕ × Code)) → (e : ℕ × Code) × (longer d o ≡ Some e) × (width f ≤ width e)
    by None = let w = ap width is in (d, refl, omega arith)
    by (Some g) = let w = ap width is in let c = longer_covers d g in (c.0, c.1, omega (arith, c.2))
covers (d ∷ es) f (inr m) =
    let r = covers es f m in
    let c = longer_covers d r.0 in
    (c.0, ap (longer d) r.1 ∙ c.1, omega (arith, r.2, c.3))

-- THE CODE OF A TEXT

module _ (codes : List Code) (find : List ℕ → Option ℕ) (is : IsLookUp codes find) (text : List ℕ) where
  abbrev those : List (ℕ × Code)
  those = codes_before (plan_of codes) text

  -- a code that begins the text is found by as many figures
  here : (e : ℕ × Code) → Among e those → (find (take (width e) text) ≡ Some e.0) × (is_code e.1.figures ≡ true) × (width e ≤ length text)
  here e m =
      let f = filter_among (λ e. is_prefix e.1.figures text) e (enumerate_from 0 codes) m in
      let p = indexes_among 0 e codes f.0 in
      let at : slice_get codes e.0 ≡ Some e.1 = ap (slice_get codes) (p.2 ∙ (let z : 0 + p.0 ≡ p.0 = omega arith in z)) ∙ p.1 in
      (ap find (sym (prefix_is_take e.1.figures text f.1)) ∙ is.finds e.0 e.1 at, is.forms e.0 e.1 at, prefix_length e.1.figures text f.1)

  -- where some figures of the text find a code, the longest is as long
  best : (n i : ℕ) → find (take n text) ≡ Some i → (e : ℕ × Code) × (longest those ≡ Some e) × (min n (length text) ≤ width e)
  best n i h =
      let f = is.found (take n text) i h in
      let front = ap (λ w. is_prefix w text) f.2 ∙ take_is_prefix n text in
      let m = subst (λ k. Among (k, f.0) (enumerate_from 0 codes)) (let z : 0 + i ≡ i = omega arith in z) (among_indexes 0 i f.0 codes f.1) in
      let c = covers those (i, f.0) (among_filter (λ e. is_prefix e.1.figures text) (i, f.0) (enumerate_from 0 codes) m front) in
      let w : length f.0.figures ≡ min n (length text) = ap length f.2 ∙ length-take n text in
      (c.0, c.1, omega (arith, c.2))

  -- the first three figures are a code
  pub read_three : (o : Option ℕ) → o ≡ find (take 3 text) → is_some o ≡ true → o ≡ code_of (plan_of codes) text
  read_three None h some = absurd (false≢true some)
  read_three (Some i) h some =
      let b = best 3 i (sym h) in
      let t = here b.0 (longest_among those b.0 b.1) in
      let short = short_code b.0.1.figures t.1 in
      let same : width b.0 ≡ min 3 (length text) = omega (arith, b.2, t.2) in
      h ∙ ap find (sym (take_min 3 text)) ∙ ap (λ n. find (take n text)) (sym same) ∙ t.0 ∙ ap (option_map (λ e. e.0)) (sym b.1)

  -- they are none
  pub read_two : (o : Option ℕ) → o ≡ find (take 3 text) → is_some o ≡ false → find (take 2 text) ≡ code_of (plan_of codes) text
  read_two (Some i) h none = absurd (false≢true (sym none))
  read_two None h none = by (longest those) refl
    where
      only : (e : ℕ × Code) (w : List ℕ) → IsSpelled w → find (take (length w) text) ≡ Some e.0 → find (take 2 text) ≡ Some e.0
      only e w (two a b f g) found = found
      only e w (three a b c f g l) found = let bad : ⊥ = cc in absurd bad

      by : (o : Option (ℕ × Code)) → longest those ≡ o → find (take 2 text) ≡ option_map (λ e. e.0) o
      by None l = nothing (find (take 2 text)) refl
        where
          nothing : (o : Option ℕ) → find (take 2 text) ≡ o → o ≡ None
          nothing None h = refl
          nothing (Some i) h = let b = best 2 i h in let s = b.1 in let bad : ⊥ = cc in absurd bad
      by (Some e) l = let t = here e (longest_among those e l) in only e e.1.figures (spelled e.1.figures t.1) t.0
