-- Sums and counts over the first numbers.
use Rattle.tx_join.proofs.Common.{◌≡◌, ℕ, ◌+◌, ◌<◌, ◌≤◌, Bool, true, false, List, [], ◌∷◌, length, take, get_or, sym, ap, ◌∙◌, arith, count_by, sum_by, slice_get, if◌then◌else◌, range_with_len, option_map_or, slice_get-get_or}
use Rattle.std.proofs.lemmas.List.FromFn.{length-range_with_len, get_or-range_with_len}
use Rattle.std.proofs.lemmas.List.Sums.{sum_by_more, count_by_more_yes, count_by_more_no}

-- a sum with one more
pub sum_more : {A : Type 0} (f : A → ℕ) (xs : List A) (i v : ℕ) → i < length xs → v ≡ option_map_or f (slice_get xs i) 0 → sum_by f (take (i + 1) xs) ≡ sum_by f (take i xs) + v
sum_more f [] i v low e = absurd (omega (arith, low))
sum_more f (x ∷ xs) i v low e =
    sum_by_more f (x ∷ xs) i x low
    ∙ ap (λ w. sum_by f (take i (x ∷ xs)) + w) (sym (e ∙ ap (λ o. option_map_or f o 0) (slice_get-get_or (x ∷ xs) i x low)))

-- a sum with one more of the first n numbers
pub range_sum_more : (f : ℕ → ℕ) (n i x v : ℕ) → i < n → x ≡ i → v ≡ f x → sum_by f (take (i + 1) (range_with_len 0 n)) ≡ sum_by f (take i (range_with_len 0 n)) + v
range_sum_more f n i x v low e is =
    let xs = range_with_len 0 n in
    let short : i < length xs = omega (arith, low, length-range_with_len 0 n) in
    let place : 0 + i ≡ x = omega (arith, e) in
    sum_by_more f xs i 0 short
    ∙ ap (λ w. sum_by f (take i xs) + w) (ap f (get_or-range_with_len 0 n i 0 low ∙ place) ∙ sym is)

-- a count with one more of the first n numbers
pub count_more : (f : ℕ → Bool) (n i x : ℕ) (b : Bool) (before now : ℕ) → i < n → x ≡ i → b ≡ f x → before ≡ count_by f (take i (range_with_len 0 n)) → now ≡ (if b then before + 1 else before) → now ≡ count_by f (take (i + 1) (range_with_len 0 n))
count_more f n i x true before now low e t h k =
    let xs = range_with_len 0 n in
    let short : i < length xs = omega (arith, low, length-range_with_len 0 n) in
    let place : 0 + i ≡ x = omega (arith, e) in
    let passes : f (get_or xs i 0) ≡ true = ap f (get_or-range_with_len 0 n i 0 low ∙ place) ∙ sym t in
    omega (arith, h, k, count_by_more_yes f xs i 0 short passes)
count_more f n i x false before now low e t h k =
    let xs = range_with_len 0 n in
    let short : i < length xs = omega (arith, low, length-range_with_len 0 n) in
    let place : 0 + i ≡ x = omega (arith, e) in
    let fails : f (get_or xs i 0) ≡ false = ap f (get_or-range_with_len 0 n i 0 low ∙ place) ∙ sym t in
    omega (arith, h, k, count_by_more_no f xs i 0 short fails)

-- no more than there are numbers
pub count_few : (b : Bool) (before now i : ℕ) → now ≡ (if b then before + 1 else before) → before ≤ i → now ≤ i + 1
count_few true before now i k h = omega (arith, k, h)
count_few false before now i k h = omega (arith, k, h)
