-- Which calls go another way than in an old plan, as it is written.
use Rattle.std.specs.Prelude.{ℕ, if◌then◌else◌, List, [], ◌++◌, length, codes, decimal}
use Rattle.std.specs.List.{flat_map}
use Rattle.tx_plan.specs.declared.ids.Pair.{Pair}
use Rattle.tx_plan.specs.Plan.{Plan, exchange_name}
use Rattle.tx_trace.specs.ThroughText.{call_line}
use Rattle.tx_trace.specs.TraceText.{way_text, way_line}
use Rattle.tx_trace.specs.WayChanges.{first_of, met_of, is_same_way, is_named}

-- the first way in the old plan q, if it is another one, as in `WAS NORTH NOSO1 SOUTH`
abbrev pub was_line : (p q : Plan) → (k j : Pair) → List ℕ
was_line p q k j =
    if is_same_way p q (first_of p k) (first_of q j) then []
    else codes "WAS " ++ way_text q j.exchange (first_of q j)

-- an exchange of p behind a word, if none of those of q has its name
abbrev pub only_line : (word : List ℕ) → (p q : Plan) → (ys : List ℕ) → (x : ℕ) → List ℕ
only_line word p q ys x =
    if is_named q ys (exchange_name p x) then []
    else word ++ (exchange_name p x ++ codes "\n")

-- The calls, their first way, that in the old plan, and the exchanges to which they may come in one
-- of the plans alone: `GAINS x` in the new one, `LOSES x` in the old one
abbrev pub change_of : (p q : Plan) → Pair × Pair → List ℕ
change_of p q (k, j) = call_line p k ++ (way_line p k.exchange (first_of p k)
    ++ (was_line p q k j
    ++ (flat_map (only_line (codes "GAINS ") p q (met_of q j)) (met_of p k)
    ++ flat_map (only_line (codes "LOSES ") q p (met_of p k)) (met_of q j))))

-- how many there are, as in `TRACE CHANGES 2`
abbrev pub count_line : ℕ → List ℕ
count_line n = codes "TRACE CHANGES " ++ (decimal n ++ codes "\n")

-- How many calls go another way, and each of them
abbrev pub changes_text : (p q : Plan) → List (Pair × Pair) → List ℕ
changes_text p q changed = count_line (length changed) ++ flat_map (change_of p q) changed
