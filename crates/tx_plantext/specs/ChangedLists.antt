-- Lists that are other ones than before, as reports have them.
use Rattle.std.specs.Prelude.{ℕ, if◌then◌else◌, List, [], ◌∷◌, ◌++◌, length, codes}
use Rattle.std.specs.List.{flat_map, range_with_len}
use Rattle.std.specs.Str.{bytes_eq}
use Rattle.tx_text.specs.Written.{line_written}
use Rattle.tx_plan.specs.Plan.{Plan, Route, figures_of, exchange_name, group_name}
use Rattle.tx_plan.specs.Routes.{route_list}
use Rattle.tx_plan.specs.Mixed.{rerouted}
use Rattle.tx_plantext.specs.PlanWritten.{route_words}

-- the list of an exchange for a code: the route, as a plan writes it, or that none is needed
abbrev pub list_line : Plan → (code x : ℕ) → List ℕ → List ℕ
list_line p code x [] =
    codes "DROP " ++ (exchange_name p x ++ (codes " " ++ (figures_of p code ++ codes "\n")))
list_line p code x (g ∷ gs) =
    line_written (route_words p (record { exchange = x; code = code; groups = g ∷ gs }))

-- the list that was there before, as in `WAS CENO1 CENO2`
abbrev pub was_line : Plan → List ℕ → List ℕ
was_line p before =
    codes "WAS" ++ (flat_map (λ g. codes " " ++ group_name p g) before ++ codes "\n")

-- a line for a list, and one for the list that it replaces, unless it has the groups that it had
-- before, in the same order
abbrev pub line_unless_same : Plan → (code x : ℕ) → (before now : List ℕ)
    → List ℕ
line_unless_same p code x before now = if bytes_eq before now then []
    else (list_line p code x now ++ was_line p before)

-- those of the list of an exchange for a code, where other routes were before
abbrev pub change_line : List Route → Plan → (code x : ℕ) → List ℕ
change_line before p code x = line_unless_same p code x
    (route_list (rerouted p before p.bars) x code) (route_list p x code)

-- the lines of all lists for a code, by exchanges
abbrev pub code_changes : List Route → Plan → (code : ℕ) → List ℕ
code_changes before p code =
    flat_map (change_line before p code) (range_with_len 0 (length p.exchanges))

-- those of all codes
abbrev pub changes : List Route → Plan → List ℕ
changes before p =
    flat_map (code_changes before p) (range_with_len 0 (length p.codes))
