-- Lines by their indexes, and what is keyed for them.
use Rattle.std.proofs.Common.{◌≡◌, ℕ, zero, suc, ◌+◌, ◌-◌, ◌^◌, ◌<◌, ◌≤◌, ◌&&◌, nat_le, Bool, true, false, List, [], ◌∷◌, ◌++◌, map, take, drop, length, Option, Some, None, refl, ap, ◌∙◌, arith, length-append}
use Rattle.tx_fill.proofs.Common.{slice_get, if◌then◌else◌, replicate, decimal, option_map_or, is_national, Line, all_at}
use Rattle.std.specs.List.{flat_map, range_with_len, list_all, zip}
use Rattle.std.specs.Str.Parse.{digits_value, AllDigits}
use Rattle.std.proofs.lemmas.Bool.{false≢true, and_parts, and_from, le-leb, leb-true}
use Rattle.std.proofs.Math.Nat.{pow-le-pow_right}
use Rattle.std.proofs.lemmas.Fmt.{length-decimal-le}
use Rattle.std.proofs.lemmas.Int.Digits.{digits_value-lt}
use Rattle.std.proofs.lemmas.Str.{digit_value_digit}
use Rattle.std.proofs.lemmas.List.{drop_all, drop_more, take-replicate, length-replicate}
use Rattle.std.proofs.lemmas.List.Folds.{list_all-append}
use Rattle.std.proofs.lemmas.List.FromFn.{get_or-map-range_with_len, length-map-range_with_len}
use Rattle.std.proofs.lemmas.Option.{cond_some, slice_get_within, slice_get_past, get_or_from_slice_get, slice_get-get_or}
use Rattle.tx_text.specs.Words.{is_figure, are_figures, is_numeral}
use Rattle.tx_text.proofs.WrittenWords.{number_back}
use Rattle.tx_plan.specs.Plan.{Plan, Code, figures_of}
use Rattle.tx_plan.specs.Rules.{IsPlan, IsCode}
use Rattle.tx_plan.specs.declared.range.LineRange.{LineRange}
use Rattle.tx_plan.proofs.Lists.{slice_get_left}
use Rattle.tx_fill.specs.declared.call_lines.Whose.{Whose}
use Rattle.tx_fill.specs.CallLines.{figures, size_of, line_in, is_meant, lines_in}

-- TEXTS OF FIGURES
pub figures_joined : (xs ys : List ℕ) → list_all is_figure xs ≡ true → list_all is_figure ys ≡ true
    → list_all is_figure (xs ++ ys) ≡ true
figures_joined xs ys f g =
    list_all-append is_figure xs ys ∙ and_from (list_all is_figure xs) (list_all is_figure ys) f g

-- so many of them
pub figures_from : (least most : ℕ) (text : List ℕ) → least ≤ length text → length text ≤ most
    → list_all is_figure text ≡ true → are_figures least most text ≡ true
figures_from least most text low high all =
    and_from (nat_le least (length text) && nat_le (length text) most) (list_all is_figure text)
    (and_from (nat_le least (length text)) (nat_le (length text) most)
    (le-leb least (length text) low) (le-leb (length text) most high)) all

pub figures_in : (least most : ℕ) (text : List ℕ) → are_figures least most text ≡ true
    → (least ≤ length text) × (length text ≤ most) × (list_all is_figure text ≡ true)
figures_in least most text h =
    let r = and_parts (nat_le least (length text) && nat_le (length text) most)
    (list_all is_figure text) h in
    let q = and_parts (nat_le least (length text)) (nat_le (length text) most) r.0 in
    (leb-true least (length text) q.0, leb-true (length text) most q.1, r.1)

-- their value
all_digits : (text : List ℕ) → list_all is_figure text ≡ true → AllDigits 10 text
all_digits [] h = tt
all_digits (b ∷ text) h =
    let r = and_parts (is_figure b) (list_all is_figure text) h in
    let q = and_parts (nat_le 48 b) (nat_le b 57) r.0 in
    let high = leb-true b 57 q.1 in
    let d = digit_value_digit b (leb-true 48 b q.0, high) in
    (omega arith, all_digits text r.1)

pub value_small : (text : List ℕ) → is_national text ≡ true
    → (digits_value 10 text < 10 ^ length text) × (10 ^ length text ≤ 10 ^ 9)
value_small text h =
    let f = figures_in 1 9 text h in
    (digits_value-lt 10 text (all_digits text f.2), pow-le-pow_right (omega arith) f.1)

-- those of a number
decimal_figures : (n : ℕ) → n < 2 ^ 32 → list_all is_figure (decimal n) ≡ true
decimal_figures n small =
    let text = decimal n in
    let back = cond_some (is_numeral text && nat_le (digits_value 10 text) n) (digits_value 10 text)
    n (number_back n n (omega arith) small) in
    let numeral = and_parts (is_numeral text) (nat_le (digits_value 10 text) n) back.0 in
    let figures = and_parts (are_figures 1 10 text) _ numeral.0 in
    (figures_in 1 10 text figures.0).2

zero_figures : (k : ℕ) → list_all is_figure (replicate k 48) ≡ true
zero_figures zero = refl
zero_figures (suc k) = zero_figures k

pub padded_figures : (k n : ℕ) → n < 2 ^ 32 → list_all is_figure (replicate k 48 ++ decimal n) ≡ true
padded_figures k n small =
    figures_joined (replicate k 48) (decimal n) (zero_figures k) (decimal_figures n small)

-- those of a code, and of none
pub code_in : (p : Plan) (c : ℕ) → IsPlan p
    → (length (figures_of p c) ≤ 3) × (list_all is_figure (figures_of p c) ≡ true)
code_in p c ok = by (slice_get p.codes c) refl
  where
    by : (o : Option Code) → slice_get p.codes c ≡ o
        → (length (option_map_or (λ (r : Code). r.figures) o []) ≤ 3)
        × (list_all is_figure (option_map_or (λ (r : Code). r.figures) o []) ≡ true)
    by None e = (omega arith, refl)
    by (Some r) e =
        let f = figures_in 2 3 r.figures (all_at (IsCode p) p.codes c r ok.codes e).figures in
        (f.1, f.2)

-- what is keyed for a line
pub full_figures : (p : Plan) (c : ℕ) (number : List ℕ) → IsPlan p → is_national number ≡ true
    → are_figures 1 12 (figures_of p c ++ number) ≡ true
full_figures p c number ok national =
    let front = code_in p c ok in
    let back = figures_in 1 9 number national in
    let few = front.0 in
    let some = back.0 in
    let short = back.1 in
    let long = length-append (figures_of p c) number in
    figures_from 1 12 (figures_of p c ++ number) (omega arith) (omega arith)
    (figures_joined (figures_of p c) number front.1 back.2)

-- a number below a power of ten has no more figures than that
pub decimal_short : (width n : ℕ) → 1 ≤ width → width ≤ 9 → n < 10 ^ width
    → length (decimal n) ≤ width
decimal_short width n some few fits =
    let least : 10 ^ width ≤ 10 ^ 9 = pow-le-pow_right (omega arith) few in
    length-decimal-le width n some fits (omega arith)

figures_long : (width n : ℕ) → length (decimal n) ≤ width → length (figures width n) ≡ width
figures_long width n short =
    let zeros = width - length (decimal n) in
    let sum : zeros + length (decimal n) ≡ width = omega arith in
    length-append (replicate zeros 48) (decimal n)
    ∙ ap (λ k. k + length (decimal n)) (length-replicate zeros 48) ∙ sum

-- a number, with zeros before it
pub padded_is : (width n : ℕ) (digits text : List ℕ) → 1 ≤ width → width ≤ 9 → n < 10 ^ width
    → digits ≡ decimal n → text ≡ take (width - length digits) (replicate 9 48) ++ digits
    → (text ≡ figures width n) × (is_national text ≡ true)
padded_is width n digits text some few fits is so =
    let zeros = width - length (decimal n) in
    let within : zeros ≤ 9 = omega arith in
    let same : text ≡ figures width n =
    so ∙ ap (λ l. take (width - length l) (replicate 9 48) ++ l) is
    ∙ ap (λ l. l ++ decimal n) (take-replicate zeros 9 48 within) in
    let least : 10 ^ width ≤ 10 ^ 9 = pow-le-pow_right (omega arith) few in
    let small : n < 2 ^ 32 = omega arith in
    let short = decimal_short width n some few fits in
    let long = figures_long width n short in (
      same,
      ap is_national same ∙ figures_from 1 9 (figures width n) (omega arith) (omega arith)
          (padded_figures zeros n small),
    )

-- a text that passes its test is read
pub is_read : (b : Bool) (text : List ℕ) → b ≡ true → (if b then Some text else None) ≡ None → ⊥
is_read true text passes none = let bad : ⊥ = cc in bad
is_read false text passes none = false≢true passes

-- AN ENTRY OF TWO LISTS
module _ {A : Type 0} where
  got_back : (xs ys : List A) (i : ℕ) → length xs ≤ i
      → slice_get (xs ++ ys) i ≡ slice_get ys (i - length xs)
  got_back [] ys i far = ap (slice_get ys) (omega arith)
  got_back (x ∷ xs) ys zero far = absurd (omega arith)
  got_back (x ∷ xs) ys (suc i) far = got_back xs ys i (omega arith) ∙ ap (slice_get ys) (omega arith)

  -- behind the first k
  pub got_behind : (k : ℕ) (xs : List A) (i : ℕ) → slice_get (drop k xs) i ≡ slice_get xs (k + i)
  got_behind zero xs i = ap (slice_get xs) (omega arith)
  got_behind (suc k) [] i = refl
  got_behind (suc k) (x ∷ xs) i =
      let more : suc (k + i) ≡ suc k + i = omega arith in
      got_behind k xs i ∙ ap (slice_get (x ∷ xs)) more

-- of both at once
module _ {A B : Type 0} where
  pub zip_both : (xs : List A) (ys : List B) (i : ℕ) (x : A) (y : B) → slice_get xs i ≡ Some x
      → slice_get ys i ≡ Some y → slice_get (zip xs ys) i ≡ Some (x, y)
  zip_both [] ys i x y e f = absurd (let bad : ⊥ = cc in bad)
  zip_both (a ∷ xs) [] i x y e f = absurd (let bad : ⊥ = cc in bad)
  zip_both (a ∷ xs) (b ∷ ys) zero x y e f = cc
  zip_both (a ∷ xs) (b ∷ ys) (suc i) x y e f = zip_both xs ys i x y e f

  pub zip_first : (xs : List A) (ys : List B) (i : ℕ) → slice_get xs i ≡ None
      → slice_get (zip xs ys) i ≡ None
  zip_first [] ys i e = slice_get_past [] i (omega arith)
  zip_first (a ∷ xs) [] i e = slice_get_past [] i (omega arith)
  zip_first (a ∷ xs) (b ∷ ys) zero e = absurd (let bad : ⊥ = cc in bad)
  zip_first (a ∷ xs) (b ∷ ys) (suc i) e = zip_first xs ys i e

  pub zip_second : (xs : List A) (ys : List B) (i : ℕ) → slice_get ys i ≡ None
      → slice_get (zip xs ys) i ≡ None
  zip_second [] ys i e = slice_get_past [] i (omega arith)
  zip_second (a ∷ xs) [] i e = slice_get_past [] i (omega arith)
  zip_second (a ∷ xs) (b ∷ ys) zero e = absurd (let bad : ⊥ = cc in bad)
  zip_second (a ∷ xs) (b ∷ ys) (suc i) e = zip_second xs ys i e

-- THE LINES FROM A RANGE ON
module _ (p : Plan) (whose : Whose) where
  abbrev pub lines_from : ℕ → List Line
  lines_from i = flat_map (lines_in p whose) (drop i p.ranges)

  -- a line of the range
  pub in_range : (r : LineRange) (k : ℕ) → k < length (lines_in p whose r)
      → (k < size_of r) × (slice_get (lines_in p whose r) k ≡ Some (line_in r k))
  in_range r k low =
      elim (is_meant p whose r) as (λ b. k < length (if b then map (line_in r)
      (range_with_len 0 (size_of r)) else []) → (k < size_of r) × (slice_get (if b then map (line_in r)
      (range_with_len 0 (size_of r)) else []) k ≡ Some (line_in r k))) [
        | true ↦ λ h.
            let n = length-map-range_with_len (line_in r) 0 (size_of r) in
            let within : k < size_of r = omega arith in (
              within,
              slice_get-get_or (map (line_in r) (range_with_len 0 (size_of r))) k (line_in r k) h
                  ∙ ap (λ l. Some l) (get_or-map-range_with_len (line_in r) 0 (size_of r) k k (line_in r k)
                  within (omega arith)),
            )
        | false ↦ λ h. absurd (omega arith)
      ] low

  pub count_is : (r : LineRange) (b : Bool) → is_meant p whose r ≡ b
      → length (lines_in p whose r) ≡ (if b then size_of r else 0)
  count_is r true is =
      ap (λ b. length (if b then map (line_in r) (range_with_len 0 (size_of r)) else [])) is
      ∙ length-map-range_with_len (line_in r) 0 (size_of r)
  count_is r false is =
      ap (λ b. length (if b then map (line_in r) (range_with_len 0 (size_of r)) else [])) is

  module _ (i : ℕ) (r : LineRange) (at : slice_get p.ranges i ≡ Some r) (k : ℕ) where
    from_is : lines_from i ≡ lines_in p whose r ++ lines_from (i + 1)
    from_is =
        ap (flat_map (lines_in p whose))
        (drop_more p.ranges i r (slice_get_within p.ranges i r at)
        ∙ ap (λ x. x ∷ drop (i + 1) p.ranges) (get_or_from_slice_get p.ranges i r r at))

    pub line_here : k < length (lines_in p whose r) → slice_get (lines_from i) k ≡ Some (line_in r k)
    line_here low =
        ap (λ l. slice_get l k) from_is
        ∙ slice_get_left (lines_in p whose r) (lines_from (i + 1)) k low ∙ (in_range r k low).1

    pub line_later : length (lines_in p whose r) ≤ k → slice_get (lines_from i) k
        ≡ slice_get (lines_from (i + 1)) (k - length (lines_in p whose r))
    line_later far =
        ap (λ l. slice_get l k) from_is ∙ got_back (lines_in p whose r) (lines_from (i + 1)) k far

  pub no_line : (i k : ℕ) → length p.ranges ≤ i → slice_get (lines_from i) k ≡ None
  no_line i k all =
      ap (λ rs. slice_get (flat_map (lines_in p whose) rs) k) (drop_all i p.ranges all)
      ∙ slice_get_past [] k (omega arith)
