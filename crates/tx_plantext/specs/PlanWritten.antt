-- The text of a plan as it is written.
use Rattle.std.specs.Prelude.{◌≡◌, ℕ, Bool, true, false, nat_lt, List, [], ◌∷◌, ◌++◌, length, map, Ok, codes}
use Rattle.std.specs.Fmt.{decimal}
use Rattle.std.specs.List.{flat_map, slice_get}
use Rattle.std.specs.Option.{option_map_or}
use Rattle.tx_text.specs.Told.{AtEnd}
use Rattle.tx_text.specs.Written.{line_written}
use Rattle.tx_plan.specs.declared.ids.Direction.{Direction}
use Rattle.tx_plan.specs.declared.ids.Direction.TheVariants.{OneWay, BothWay}
use Rattle.tx_plan.specs.declared.ids.Pair.{Pair}
use Rattle.tx_plan.specs.declared.range.LineRange.{LineRange}
use Rattle.tx_plan.specs.Plan.{Plan, Code, Group, Route, exchange_name, figures_of, group_name}
use Rattle.tx_plan.specs.Rules.{IsPlan}
use Rattle.tx_plantext.specs.PlanText.{plan_of}

-- the words of an exchange's line
abbrev pub exchange_words : List ℕ → List (List ℕ)
exchange_words name = codes "EXCHANGE" ∷ name ∷ []

-- the words of a code's line
abbrev pub code_words : Plan → Code → List (List ℕ)
code_words p c = codes "CODE" ∷ c.figures ∷ exchange_name p c.home ∷ []

-- the words of a line of LINES
abbrev pub range_words : Plan → LineRange → List (List ℕ)
range_words p r = codes "LINES" ∷ figures_of p r.code ∷ r.low ∷ r.high ∷ []

-- the word of a direction
abbrev pub direction_word : Direction → List ℕ
direction_word OneWay = codes "ONEWAY"
direction_word BothWay = codes "BOTHWAY"

-- the words of a group's line
abbrev pub group_words : Plan → Group → List (List ℕ)
group_words p g =
    codes "GROUP"
    ∷ g.name
    ∷ exchange_name p g.a
    ∷ exchange_name p g.b
    ∷ direction_word g.direction
    ∷ decimal g.count ∷ []

-- the words of a route's line
abbrev pub route_words : Plan → Route → List (List ℕ)
route_words p r =
    codes "ROUTE"
    ∷ exchange_name p r.exchange
    ∷ figures_of p r.code
    ∷ map (group_name p) r.groups

-- the words of a line of BAR
abbrev pub bar_words : Plan → Pair → List (List ℕ)
bar_words p b = codes "BAR" ∷ exchange_name p b.exchange ∷ figures_of p b.code ∷ []

-- the six lists in turn, each in order of declaration
abbrev pub plan_lines : Plan → List (List (List ℕ))
plan_lines p = map exchange_words p.exchanges
    ++ (map (code_words p) p.codes ++ (map (range_words p) p.ranges ++ (map (group_words p) p.groups
    ++ (map (route_words p) p.routes ++ map (bar_words p) p.bars))))

-- the lines of its entries
abbrev pub lines_of_list : {A : Type 0} → (A → List (List ℕ)) → List A → List ℕ
lines_of_list words entries = flat_map (λ x. line_written (words x)) entries

-- the line of the entry at an index, if there is one
abbrev pub line_at : {A : Type 0} → (A → List (List ℕ)) → List A → ℕ → List ℕ
line_at words entries index =
    option_map_or (λ x. line_written (words x)) (slice_get entries index) []

-- whether a plan has bars
abbrev pub has_bars : Plan → Bool
has_bars p = nat_lt 0 (length p.bars)

-- the first line: the second version is needed only where there is a bar
abbrev pub head_of : Bool → List (List ℕ)
head_of false = codes "PLAN" ∷ codes "1" ∷ []
head_of true = codes "PLAN" ∷ codes "2" ∷ []

-- the version of the header
abbrev pub version_of : Bool → ℕ
version_of false = 1
version_of true = 2

-- the header, the lines of the plan and END, each with an LF after it
abbrev pub plan_written : Plan → List ℕ
plan_written p = line_written (head_of (has_bars p))
    ++ (flat_map line_written (plan_lines p) ++ codes "END\n")

-- The round trip: what is written for a plan says that plan
abbrev pub ReadsBack : Type 0
ReadsBack = (p : Plan) → IsPlan p → plan_of AtEnd (plan_written p) ≡ Ok p
