-- What a filter keeps of a list, element by element.
use Rattle.std.proofs.Common.{◌≡◌, ◌+◌, ◌<◌, ◌++◌, ◌∷◌, ◌∙◌, ℕ, Bool, true, false, List, [], length, get_or, take, sym, ap, map, filter, arith, cond, map-id, append-nil}
use Rattle.std.specs.List.{range_with_len}
use Rattle.std.proofs.lemmas.List.Elements.{filter_more}
use Rattle.std.proofs.lemmas.List.FromFn.{filter_of_map_range_with_len_more}

more : (p : ℕ → Bool) (i : ℕ) → filter p (range_with_len 0 (i + 1)) ≡ filter p (range_with_len 0 i) ++ cond (p i) (i ∷ []) []
more p i =
    let same : (n : ℕ) → filter p (range_with_len 0 n) ≡ filter p (map (λ x. x) (range_with_len 0 n)) = λ n. ap (filter p) (sym (map-id (range_with_len 0 n))) in
    same (i + 1) ∙ filter_of_map_range_with_len_more p (λ x. x) 0 i i (omega arith) ∙ ap (λ (l : List ℕ). l ++ cond (p i) (i ∷ []) []) (sym (same i))

-- one that it keeps comes behind the others
pub kept_more : (p : ℕ → Bool) (i : ℕ) → p i ≡ true → filter p (range_with_len 0 (i + 1)) ≡ filter p (range_with_len 0 i) ++ i ∷ []
kept_more p i h = more p i ∙ ap (λ (b : Bool). filter p (range_with_len 0 i) ++ cond b (i ∷ []) []) h

-- and one that it does not keep changes nothing
pub passed_more : (p : ℕ → Bool) (i : ℕ) → p i ≡ false → filter p (range_with_len 0 (i + 1)) ≡ filter p (range_with_len 0 i)
passed_more p i h = more p i ∙ ap (λ (b : Bool). filter p (range_with_len 0 i) ++ cond b (i ∷ []) []) h ∙ append-nil (filter p (range_with_len 0 i))

-- the same of any list
kept_at : (p : ℕ → Bool) (xs : List ℕ) (i x : ℕ) (b : Bool) → i < length xs → x ≡ get_or xs i x → p x ≡ b → filter p (take (i + 1) xs) ≡ filter p (take i xs) ++ cond b (x ∷ []) []
kept_at p xs i x b less is t =
    filter_more p xs i x less ∙ ap (λ (y : ℕ). filter p (take i xs) ++ cond (p y) (y ∷ []) []) (sym is) ∙ ap (λ (b : Bool). filter p (take i xs) ++ cond b (x ∷ []) []) t

pub kept_next : (p : ℕ → Bool) (xs : List ℕ) (i x : ℕ) → i < length xs → x ≡ get_or xs i x → p x ≡ true → filter p (take (i + 1) xs) ≡ filter p (take i xs) ++ x ∷ []
kept_next p xs i x less is t = kept_at p xs i x true less is t

pub passed_next : (p : ℕ → Bool) (xs : List ℕ) (i x : ℕ) → i < length xs → x ≡ get_or xs i x → p x ≡ false → filter p (take (i + 1) xs) ≡ filter p (take i xs)
passed_next p xs i x less is t = kept_at p xs i x false less is t ∙ append-nil (filter p (take i xs))
