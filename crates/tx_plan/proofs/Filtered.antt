-- Lists of which some members are kept, and joined lists.
use Rattle.std.proofs.Common.{◌≡◌, ℕ, suc, ◌+◌, ◌<◌, Bool, true, false, cond, ◌||◌, List, [], ◌∷◌, ◌++◌, length, get_or, drop, Some, None, refl, sym, ap, ◌∙◌, add-one, drop-cons, append_assoc}
use Rattle.tx_plan.proofs.Common.{true≢false, find, filter, list_any, AllByRecursion, EachPair}
use Rattle.tx_plan.proofs.Lists.{all_map}

module _ {A : Type 0} where
  module _ (t s : A → Bool) where
    -- none that passes is kept
    pub find_out : ((z : A) → t z ≡ true → s z ≡ false) → (xs : List A) → find t (filter s xs) ≡ None
    find_out h [] = refl
    find_out h (x ∷ xs) =
        let rest = find_out h xs in
        elim (s x) as (λ b. s x ≡ b → find t (cond b (x ∷ filter s xs) (filter s xs)) ≡ None) [
          | true ↦ λ e. elim (t x) as (λ b. t x ≡ b → cond b (Some x) (find t (filter s xs)) ≡ None) [ true ↦ λ q. absurd (true≢false (sym e ∙ h x q)) | false ↦ λ q. rest ] refl
          | false ↦ λ e. rest
        ] refl

    -- all that pass are kept
    pub find_in : ((z : A) → t z ≡ true → s z ≡ true) → (xs : List A) → find t (filter s xs) ≡ find t xs
    find_in h [] = refl
    find_in h (x ∷ xs) =
        let rest = find_in h xs in
        elim (s x) as (λ b. s x ≡ b → find t (cond b (x ∷ filter s xs) (filter s xs)) ≡ cond (t x) (Some x) (find t xs)) [
          | true ↦ λ e. ap (λ o. cond (t x) (Some x) o) rest
          | false ↦ λ e. elim (t x) as (λ b. t x ≡ b → find t (filter s xs) ≡ cond b (Some x) (find t xs)) [ true ↦ λ q. absurd (true≢false (sym (h x q) ∙ e)) | false ↦ λ q. rest ] refl
        ] refl

    pub any_out : ((z : A) → t z ≡ true → s z ≡ false) → (xs : List A) → list_any t (filter s xs) ≡ false
    any_out h [] = refl
    any_out h (x ∷ xs) =
        let rest = any_out h xs in
        elim (s x) as (λ b. s x ≡ b → list_any t (cond b (x ∷ filter s xs) (filter s xs)) ≡ false) [
          | true ↦ λ e. elim (t x) as (λ b. t x ≡ b → (b || list_any t (filter s xs)) ≡ false) [ true ↦ λ q. absurd (true≢false (sym e ∙ h x q)) | false ↦ λ q. rest ] refl
          | false ↦ λ e. rest
        ] refl

    pub any_in : ((z : A) → t z ≡ true → s z ≡ true) → (xs : List A) → list_any t (filter s xs) ≡ list_any t xs
    any_in h [] = refl
    any_in h (x ∷ xs) =
        let rest = any_in h xs in
        elim (s x) as (λ b. s x ≡ b → list_any t (cond b (x ∷ filter s xs) (filter s xs)) ≡ (t x || list_any t xs)) [
          | true ↦ λ e. ap (λ o. t x || o) rest
          | false ↦ λ e. elim (t x) as (λ b. t x ≡ b → list_any t (filter s xs) ≡ (b || list_any t xs)) [ true ↦ λ q. absurd (true≢false (sym (h x q) ∙ e)) | false ↦ λ q. rest ] refl
        ] refl

  module _ (t : A → Bool) where
    -- none in the first list
    pub find_second : (xs ys : List A) → find t xs ≡ None → find t (xs ++ ys) ≡ find t ys
    find_second [] ys h = refl
    find_second (x ∷ xs) ys h =
        elim (t x) as (λ b. cond b (Some x) (find t xs) ≡ None → cond b (Some x) (find t (xs ++ ys)) ≡ find t ys) [
          | true ↦ λ e. let bad : ⊥ = cc in absurd bad
          | false ↦ λ e. find_second xs ys e
        ] h

    -- none in the second list
    pub find_first : (xs ys : List A) → find t ys ≡ None → find t (xs ++ ys) ≡ find t xs
    find_first [] ys h = h
    find_first (x ∷ xs) ys h = ap (λ o. cond (t x) (Some x) o) (find_first xs ys h)

    pub any_second : (xs ys : List A) → list_any t xs ≡ false → list_any t (xs ++ ys) ≡ list_any t ys
    any_second [] ys h = refl
    any_second (x ∷ xs) ys h =
        elim (t x) as (λ b. (b || list_any t xs) ≡ false → (b || list_any t (xs ++ ys)) ≡ list_any t ys) [
          | true ↦ λ e. absurd (true≢false e)
          | false ↦ λ e. any_second xs ys e
        ] h

    pub any_first : (xs ys : List A) → list_any t ys ≡ false → list_any t (xs ++ ys) ≡ list_any t xs
    any_first [] ys h = h
    any_first (x ∷ xs) ys h = ap (λ o. t x || o) (any_first xs ys h)

  pub all_kept : (P : A → Type 0) (s : A → Bool) (xs : List A) → AllByRecursion P xs → AllByRecursion P (filter s xs)
  all_kept P s [] h = tt
  all_kept P s (x ∷ xs) h = elim (s x) as (λ b. AllByRecursion P (cond b (x ∷ filter s xs) (filter s xs))) [ true ↦ (h.0, all_kept P s xs h.1) | false ↦ all_kept P s xs h.1 ]

  pub all_joined : (P : A → Type 0) (xs ys : List A) → AllByRecursion P xs → AllByRecursion P ys → AllByRecursion P (xs ++ ys)
  all_joined P [] ys h k = k
  all_joined P (x ∷ xs) ys h k = (h.0, all_joined P xs ys h.1 k)

  pub pairs_kept : (R : A → A → Type 0) (s : A → Bool) (xs : List A) → EachPair R xs → EachPair R (filter s xs)
  pairs_kept R s [] h = tt
  pairs_kept R s (x ∷ xs) h = elim (s x) as (λ b. EachPair R (cond b (x ∷ filter s xs) (filter s xs))) [ true ↦ (all_kept (R x) s xs h.0, pairs_kept R s xs h.1) | false ↦ pairs_kept R s xs h.1 ]

  pub pairs_joined : (P Q : A → Type 0) (R : A → A → Type 0) (xs ys : List A) → EachPair R xs → EachPair R ys → AllByRecursion P xs → AllByRecursion Q ys → ((x y : A) → P x → Q y → R x y) → EachPair R (xs ++ ys)
  pairs_joined P Q R [] ys h k p q across = k
  pairs_joined P Q R (x ∷ xs) ys h k p q across = (all_joined (R x) xs ys h.0 (all_map ys (λ y b. across x y p.0 b) q), pairs_joined P Q R xs ys h.1 k p.1 q across)

  -- all that are kept pass
  pub all_pass : (s : A → Bool) (xs : List A) → AllByRecursion (λ x. s x ≡ true) (filter s xs)
  all_pass s [] = tt
  all_pass s (x ∷ xs) =
      let rest = all_pass s xs in
      elim (s x) as (λ b. s x ≡ b → AllByRecursion (λ x. s x ≡ true) (cond b (x ∷ filter s xs) (filter s xs))) [ true ↦ λ e. (e, rest) | false ↦ λ e. rest ] refl

  -- the steps of a loop over members, by what is left
  module _ (xs : List A) (i : ℕ) (x : A) (h : i < length xs) (e : x ≡ get_or xs i x) where
    pub at_drop : drop i xs ≡ x ∷ drop (i + 1) xs
    at_drop = rw add-one (drop-cons xs i x h ∙ ap (λ y. y ∷ drop (suc i) xs) (sym e))

    pub filter_step : (t : A → Bool) (b : Bool) → t x ≡ b → filter t (drop i xs) ≡ cond b (x ∷ filter t (drop (i + 1) xs)) (filter t (drop (i + 1) xs))
    filter_step t b k = ap (filter t) at_drop ∙ ap (λ b. cond b (x ∷ filter t (drop (i + 1) xs)) (filter t (drop (i + 1) xs))) k

    module _ (t : A → Bool) (list all : List A) (a : list ++ filter t (drop i xs) ≡ all) where
      pub keep_put : (new : List A) → t x ≡ true → new ≡ list ++ x ∷ [] → new ++ filter t (drop (i + 1) xs) ≡ all
      keep_put new k n = ap (λ l. l ++ filter t (drop (i + 1) xs)) n ∙ append_assoc list (x ∷ []) (filter t (drop (i + 1) xs)) ∙ ap (λ l. list ++ l) (sym (filter_step t true k)) ∙ a

      pub keep_passed : (new : List A) → t x ≡ false → new ≡ list → new ++ filter t (drop (i + 1) xs) ≡ all
      keep_passed new k n = ap (λ l. l ++ filter t (drop (i + 1) xs)) n ∙ ap (λ l. list ++ l) (sym (filter_step t false k)) ∙ a
