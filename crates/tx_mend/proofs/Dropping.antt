-- Steps of loops over groups, by what is left.
use Rattle.tx_mend.proofs.Common.{◌≡◌, ℕ, ◌+◌, ◌<◌, Bool, true, false, cond, not, ◌&&◌, ◌||◌, List, [], ◌∷◌, ◌++◌, length, get_or, drop, refl, sym, ap, ◌∙◌, arith, filter, list_all, bool_byte}
use Rattle.tx_plan.proofs.Filtered.{at_drop, filter_step}
use Rattle.tx_mend.specs.Lists.{put, filled}

module _ (xs : List ℕ) (i x : ℕ) (h : i < length xs) (e : x ≡ get_or xs i x) where
  pub all_step : (t : ℕ → Bool) → list_all t xs ≡ list_all t (drop i xs) → t x ≡ true → list_all t xs ≡ list_all t (drop (i + 1) xs)
  all_step t a k = a ∙ ap (list_all t) (at_drop xs i x h e) ∙ ap (λ b. b && list_all t (drop (i + 1) xs)) k

  pub count_step : (t : ℕ → Bool) (n all : ℕ) (b : Bool) → n + length (filter t (drop i xs)) ≡ all → t x ≡ b → (n + bool_byte b) + length (filter t (drop (i + 1) xs)) ≡ all
  count_step t n all true a k = let s = ap length (filter_step xs i x h e t true k) in omega arith
  count_step t n all false a k = let s = ap length (filter_step xs i x h e t false k) in omega arith

  module _ (spare : ℕ) (t : ℕ → Bool) (list all : List ℕ) (a : all ≡ filled spare list (filter t (drop i xs))) where
    pub fill_put : (new : List ℕ) → t x ≡ true → new ≡ put spare list x → all ≡ filled spare new (filter t (drop (i + 1) xs))
    fill_put new k n = a ∙ ap (filled spare list) (filter_step xs i x h e t true k) ∙ ap (λ l. filled spare l (filter t (drop (i + 1) xs))) (sym n)

    pub fill_passed : (new : List ℕ) → t x ≡ false → new ≡ list → all ≡ filled spare new (filter t (drop (i + 1) xs))
    fill_passed new k n = a ∙ ap (filled spare list) (filter_step xs i x h e t false k) ∙ ap (λ l. filled spare l (filter t (drop (i + 1) xs))) (sym n)

-- all that pass one test pass another one
pub all_kept : (t on : ℕ → Bool) (xs : List ℕ) → list_all (λ x. not (t x) || on x) xs ≡ list_all on (filter t xs)
all_kept t on [] = refl
all_kept t on (x ∷ xs) = elim (t x) as (λ b. ((not b || on x) && list_all (λ y. not (t y) || on y) xs) ≡ list_all on (cond b (x ∷ filter t xs) (filter t xs))) [
  | true ↦ ap (λ r. on x && r) (all_kept t on xs)
  | false ↦ all_kept t on xs
]

pub filled_append : (spare : ℕ) (list a b : List ℕ) → filled spare list (a ++ b) ≡ filled spare (filled spare list a) b
filled_append spare list [] b = refl
filled_append spare list (g ∷ a) b = filled_append spare (put spare list g) a b
