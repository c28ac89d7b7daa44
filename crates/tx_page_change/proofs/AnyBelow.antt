-- Whether an index below a number has a property.
use Rattle.std.proofs.Common.{◌≡◌, ℕ, ◌+◌, ◌<◌, ◌||◌, Bool, true, false, length, take, get_or, ap, ◌∙◌, arith}
use Rattle.std.specs.List.{list_any, range_with_len}
use Rattle.std.proofs.lemmas.List.FromFn.{length-range_with_len, get_or-range_with_len}
use Rattle.std.proofs.lemmas.List.Folds.{list_any_more, list_any_at}

module _ (f : ℕ → Bool) (n i x : ℕ) (low : i < n) (e : x ≡ i) where
  -- the index there is this one
  same : f (get_or (range_with_len 0 n) i 0) ≡ f x
  same = let place : 0 + i ≡ x = omega (arith, e) in ap f (get_or-range_with_len 0 n i 0 low ∙ place)

  short : i < length (range_with_len 0 n)
  short = omega (arith, low, length-range_with_len 0 n)

  -- none of one more
  pub none_more : list_any f (take i (range_with_len 0 n)) ≡ false → f x ≡ false → list_any f (take (i + 1) (range_with_len 0 n)) ≡ false
  none_more h k =
      let xs = range_with_len 0 n in
      list_any_more f xs i 0 short ∙ ap (λ a. a || f (get_or xs i 0)) h ∙ (same ∙ k)

  -- this one
  pub any_here : f x ≡ true → list_any f (range_with_len 0 n) ≡ true
  any_here k = list_any_at f (range_with_len 0 n) i 0 short (same ∙ k)
