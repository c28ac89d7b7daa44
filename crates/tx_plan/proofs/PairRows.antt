-- Pairs of an exchange and a code as keys of a map, and the routes that its entries are.
use Rattle.tx_plan.proofs.Common.{◌≡◌, ℕ, Bool, true, false, ◌&&◌, ◌==◌, List, [], ◌∷◌, map, refl, sym, ap, ◌∙◌, eqb-true, eq-eqb, find, list_any, option_map_or, ArrayVec, Route, Pair, route_of_row}
use Rattle.std.specs.Map.{lookup, keys_of}
use Rattle.tx_plan.proofs.Lists.{same_tests}
use Rattle.tx_plan.proofs.Tables.{list_any-map}

eq_turned : (m n : ℕ) → (m == n) ≡ (n == m)
eq_turned m n = same_tests (m == n) (n == m) (λ h. eq-eqb n m (sym (eqb-true m n h))) (λ h. eq-eqb m n (sym (eqb-true n m h)))

-- a map compares its keys with a pair from one side
abbrev pub same_pair : Pair → Pair → Bool
same_pair p q = (p.exchange == q.exchange) && (p.code == q.code)

-- and contracts do so from the other
pub turned : (p q : Pair) → same_pair p q ≡ same_pair q p
turned p q = λ i. eq_turned p.exchange q.exchange i && eq_turned p.code q.code i

-- a route is that of a pair
abbrev pub is_route : Pair → Route → Bool
is_route p r = (r.exchange == p.exchange) && (r.code == p.code)

-- the test of a pair, at the keys of a map and at the routes that its entries are
pub any_route : (p : Pair) (es : List (Pair × ArrayVec ℕ)) → list_any (same_pair p) (keys_of es) ≡ list_any (is_route p) (map route_of_row es)
any_route p es = list_any-map (same_pair p) (λ e. e.0) es ∙ ap (λ t. list_any t es) (λ i e. turned p e.0 i) ∙ sym (list_any-map (is_route p) route_of_row es)

-- what a map has for a pair are the groups of its first route
pub groups_found : (p : Pair) (es : List (Pair × ArrayVec ℕ)) → option_map_or (λ gs. gs.items) (lookup (same_pair p) es) [] ≡ option_map_or (λ r. r.groups) (find (is_route p) (map route_of_row es)) []
groups_found p [] = refl
groups_found p (e ∷ es) = by_test (same_pair p e.0) refl (groups_found p es)
  where
    by_test : (b : Bool) → same_pair p e.0 ≡ b → option_map_or (λ gs. gs.items) (lookup (same_pair p) es) [] ≡ option_map_or (λ r. r.groups) (find (is_route p) (map route_of_row es)) []
        → option_map_or (λ gs. gs.items) (lookup (same_pair p) (e ∷ es)) [] ≡ option_map_or (λ r. r.groups) (find (is_route p) (map route_of_row (e ∷ es))) []
    by_test true h later = rw (h, sym (turned p e.0) ∙ h) refl
    by_test false h later = rw (h, sym (turned p e.0) ∙ h) later
