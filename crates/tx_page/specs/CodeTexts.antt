-- What a page shows of the codes.
use Rattle.std.specs.Prelude.{ℕ, ◌+◌, List, [], ◌∷◌, ◌++◌, Option, Some, None, codes, decimal}
use Rattle.std.specs.List.{flat_map}
use Rattle.tx_html.specs.Amounts.{amount}
use Rattle.tx_plan.specs.Plan.{Plan, exchange_name, figures_of, home_of}
use Rattle.tx_rank.specs.declared.bounds.Bounds.{Bounds}
use Rattle.tx_page_change.specs.Counts.{lines_of}

-- the least limit, the greatest spare number, and how many groups a way has at the most; or that
-- there is no grade
abbrev pub bounds_texts : Option Bounds → List (List ℕ)
bounds_texts (Some b) = decimal b.limit ∷ decimal b.spare ∷ decimal (b.limit + 1) ∷ []
bounds_texts None = codes "no grade" ∷ []

-- a code, its home, its lines, and its grade
abbrev pub code_texts : Plan → ℕ × Option Bounds → List (List ℕ)
code_texts p q = (figures_of p q.0 ∷ exchange_name p (home_of p q.0) ∷ amount (lines_of p q.0)
    ∷ []) ++ bounds_texts q.1

abbrev pub codes_texts : Plan → List (ℕ × Option Bounds) → List (List ℕ)
codes_texts p grades = flat_map (code_texts p) grades
