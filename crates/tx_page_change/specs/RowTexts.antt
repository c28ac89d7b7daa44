-- What the rows of a table show that compares two plans.
use Rattle.std.specs.Prelude.{ℕ, Bool, false, nat_lt, if◌then◌else◌, List, [], ◌∷◌, ◌++◌, Option, None, Some, codes}
use Rattle.tx_html.specs.Amounts.{amount}
use Rattle.tx_page_change.specs.Numbers.{is_worse_number}

-- a number of the old plan, and that of the new one
abbrev pub pair_texts : (old new : ℕ) → List (List ℕ)
pair_texts old new = amount old ∷ amount new ∷ []

-- a number, or that there is none
abbrev pub number_texts : Option ℕ → List (List ℕ)
number_texts None = codes "none" ∷ []
number_texts (Some n) = amount n ∷ []

-- how the new plan stands to the old one
abbrev pub stand_word : (worse better : Bool) → List ℕ
stand_word worse better =
    if worse then codes "worse" else (if better then codes "better" else codes "same")

-- a number of both, and how the new plan stands by it
abbrev pub measure_texts : (more : Bool) → (old new : Option ℕ) → List (List ℕ)
measure_texts more old new = number_texts old ++ (number_texts new
    ++ stand_word (is_worse_number more old new) (is_worse_number more new old) ∷ [])

-- there are some
abbrev pub is_any : Option ℕ → Bool
is_any None = false
is_any (Some n) = nat_lt 0 n

-- after how many outages somebody is worse off than in the old plan, and after how many better
abbrev pub outcomes_texts : (worse better : Option ℕ) → List (List ℕ)
outcomes_texts worse better = (number_texts worse ++ stand_word (is_any worse) false ∷ [])
    ++ (number_texts better ++ stand_word false (is_any better) ∷ [])
