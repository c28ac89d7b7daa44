-- Lists of calls, as they are kept and as they are seen.
use Rattle.tx_machine.proofs.Common.{◌≡◌, ℕ, ◌+◌, ◌≤◌, Bool, true, false, not, ◌&&◌, ◌||◌, cond, List, [], ◌∷◌, ◌++◌, map, take, drop, refl, ap, vec_len, vec_capacity, filter, Vec, list_any, Plan, Cause, Ended, ticket_of, call_seen, ends_by, OpenCall, Ends}

pub any_map : {A B : Type 0} (t : B → Bool) (f : A → B) (xs : List A) → list_any (λ x. t (f x)) xs ≡ list_any t (map f xs)
any_map t f [] = refl
any_map t f (x ∷ xs) = ap (λ b. t (f x) || b) (any_map t f xs)

pub filter_map_seen : {A B : Type 0} (t : B → Bool) (f : A → B) (xs : List A) → map f (filter (λ x. t (f x)) xs) ≡ filter t (map f xs)
filter_map_seen t f [] = refl
filter_map_seen t f (x ∷ xs) =
    elim (t (f x)) as (λ b. map f (cond b (x ∷ filter (λ x. t (f x)) xs) (filter (λ x. t (f x)) xs)) ≡ cond b (f x ∷ filter t (map f xs)) (filter t (map f xs))) [
      | true ↦ ap (λ l. f x ∷ l) (filter_map_seen t f xs)
      | false ↦ filter_map_seen t f xs
    ]

pub any_filter : {A : Type 0} (t u : A → Bool) (xs : List A) → list_any (λ x. t x && u x) xs ≡ list_any u (filter t xs)
any_filter t u [] = refl
any_filter t u (x ∷ xs) =
    elim (t x) as (λ b. ((b && u x) || list_any (λ x. t x && u x) xs) ≡ list_any u (cond b (x ∷ filter t xs) (filter t xs))) [
      | true ↦ ap (λ b. u x || b) (any_filter t u xs)
      | false ↦ any_filter t u xs
    ]

-- calls that end, up to an index in the list
pub record IsEnding {A : Type 0} (p : Plan) (cause : Cause) (event : ℕ) (ends : Ends) (calls : List (OpenCall A)) (tickets : List Ended) (at : ℕ) (now : Vec (OpenCall A) A) (made : Vec Ended A) : Type 0 where
  pub kept : take at now.items ++ filter (λ c. not (ends_by ends (call_seen c))) (drop at now.items) ≡ filter (λ c. not (ends_by ends (call_seen c))) calls
  pub ended : made.items ++ map (ticket_of p cause event) (filter (ends_by ends) (map call_seen (drop at now.items))) ≡ tickets ++ map (ticket_of p cause event) (filter (ends_by ends) (map call_seen calls))
  pub within : at ≤ vec_len now
  pub room : vec_len made + vec_len now ≤ vec_capacity made
