-- How many lists are new, change and go.
use Rattle.std.specs.Prelude.{ℕ, ◌+◌, Bool, false, not, ◌&&◌, ◌==◌, List, [], ◌∷◌, ◌++◌, length, codes, decimal, count_by, sum_by}
use Rattle.std.specs.List.{range_with_len}
use Rattle.std.specs.Str.{bytes_eq}
use Rattle.tx_plan.specs.Plan.{Plan, group_name}
use Rattle.tx_plan.specs.Routes.{route_list}
use Rattle.tx_join.specs.Joined.{exchange_in, code_in, has_both, routes_alone}

-- groups of two plans have the same names
abbrev pub have_same_names : (p q : Plan) → (groups others : List ℕ) → Bool
have_same_names p q [] hs = length hs == 0
have_same_names p q (g ∷ gs) [] = false
have_same_names p q (g ∷ gs) (h ∷ hs) =
    bytes_eq (group_name p g) (group_name q h) && have_same_names p q gs hs

-- the list of an exchange for a code, both of the plan p, has the same groups in q
abbrev pub is_same_list : (p q : Plan) → (x c : ℕ) → Bool
is_same_list p q x c = have_same_names p q (route_list p x c)
    (route_list q (exchange_in q p x) (code_in q p c))

-- both plans have the exchange and the code, and q has another list for them
abbrev pub is_changed : (p q : Plan) → (x c : ℕ) → Bool
is_changed p q x c = has_both q p x c && not (is_same_list p q x c)

-- how many lists change at an exchange
abbrev pub changed_at : (p q : Plan) → (x : ℕ) → ℕ
changed_at p q x = count_by (is_changed p q x) (range_with_len 0 (length p.codes))

-- and at all exchanges
abbrev pub changed_in : (p q : Plan) → ℕ
changed_in p q = sum_by (changed_at p q) (range_with_len 0 (length p.exchanges))

-- the line that counts them
abbrev pub counts_line : (new changed gone : ℕ) → List ℕ
counts_line new changed gone = codes "LISTS " ++ (decimal (new + changed + gone)
    ++ (codes " NEW " ++ (decimal new ++ (codes " CHANGED " ++ (decimal changed
    ++ (codes " GONE " ++ (decimal gone ++ codes "\n")))))))

-- How many lists are new, change and go from one plan to another: those are new, or go, that one of
-- them has for an exchange or a code that the other does not have.
abbrev pub lists_line : (old new : Plan) → List ℕ
lists_line old new = counts_line (length (routes_alone new old)) (changed_in old new)
    (length (routes_alone old new))
