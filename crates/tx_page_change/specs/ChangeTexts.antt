-- What a page shows of the change from an old plan.
use Rattle.std.specs.Prelude.{ℕ, ◌+◌, Bool, true, false, not, ◌&&◌, ◌==◌, if◌then◌else◌, List, [], ◌∷◌, ◌++◌, length, map, codes, decimal}
use Rattle.std.specs.Str.{bytes_eq}
use Rattle.tx_plan.specs.Plan.{Plan, exchange_name, figures_of, group_name}
use Rattle.tx_plan.specs.Routes.{route_list, is_barred}
use Rattle.tx_order.specs.Ordered.{Order, plan_before, stages_in}
use Rattle.tx_svg.specs.Indexed.{texts_below}

-- whether an exchange was barred for a code, and whether it is now: a bar that is set, one that is
-- lifted, or nothing
abbrev pub bar_word : (before now : Bool) → List ℕ
bar_word false false = []
bar_word false true = codes "set"
bar_word true false = codes "lifted"
bar_word true true = []

-- an exchange and a code, its list before and its list now, and what happens to the bar
abbrev pub entry_texts : Plan → (x c : ℕ) → (before now : List ℕ) → (was is : Bool) → List (List ℕ)
entry_texts p x c before now was is = (exchange_name p x ∷ figures_of p c ∷ [])
    ++ (map (group_name p) before ++ (map (group_name p) now ++ bar_word was is ∷ []))

-- the list or the bar is another one
abbrev pub is_switched : (before now : List ℕ) → (was is : Bool) → Bool
is_switched before now was is = not (bytes_eq before now && (length (bar_word was is) == 0))

-- the same, if the list or the bar is another one
abbrev pub switched_texts : Plan → (x c : ℕ) → (before now : List ℕ) → (was is : Bool)
    → List (List ℕ)
switched_texts p x c before now was is =
    if is_switched before now was is then entry_texts p x c before now was is else []

-- what two plans have for a code at an exchange, by the names of p
abbrev pub pair_texts : (p before after : Plan) → (x c : ℕ) → List (List ℕ)
pair_texts p before after x c = switched_texts p x c (route_list before x c) (route_list after x c)
    (is_barred before x c) (is_barred after x c)

-- at an exchange, by codes
abbrev pub exchange_texts : (p before after : Plan) → (x : ℕ) → List (List ℕ)
exchange_texts p before after x = texts_below (length p.codes) (pair_texts p before after x)

-- at all exchanges
abbrev pub table_texts : (p before after : Plan) → List (List ℕ)
table_texts p before after = texts_below (length p.exchanges) (exchange_texts p before after)

-- the number of a stage, from 1, and how many there are
abbrev pub stage_title : Order → ℕ → List (List ℕ)
stage_title o s = decimal (s + 1) ∷ decimal (stages_in o) ∷ []

-- a stage, and what it switches
abbrev pub stage_texts : Order → ℕ → List (List ℕ)
stage_texts o s = stage_title o s
    ++ table_texts o.transition.new (plan_before o s) (plan_before o (s + 1))

-- whether there is a safe order of switching
abbrev pub order_word : (ordered : Bool) → List ℕ
order_word true = codes "a safe order"
order_word false = codes "no safe order"

-- that there is an order, and its stages
abbrev pub stages_texts : Order → List (List ℕ)
stages_texts o = order_word true ∷ texts_below (stages_in o) (stage_texts o)

-- that there is none, and all that differs
abbrev pub difference_texts : (old new : Plan) → List (List ℕ)
difference_texts old new = order_word false ∷ table_texts new old new
