-- Which calls can pass an exchange or a group, as it is written.
use Rattle.std.specs.Prelude.{ℕ, List, ◌++◌, codes}
use Rattle.std.specs.List.{flat_map}
use Rattle.tx_plan.specs.declared.ids.Pair.{Pair}
use Rattle.tx_plan.specs.Plan.{Plan, exchange_name, figures_of, group_name}
use Rattle.tx_trace.specs.declared.through.Through.{Through}
use Rattle.tx_trace.specs.declared.through.Through.TheVariants.{Exchange, Group}
use Rattle.tx_trace.specs.Through.{calls_through}
use Rattle.tx_trace.specs.TraceText.{down_line}

-- the name of the exchange or of the group
abbrev pub through_name : Plan → Through → List ℕ
through_name p (Exchange x) = exchange_name p x
through_name p (Group g) = group_name p g

-- calls for the code can start at the exchange, as in `CODE 24 FROM NORTH`
abbrev pub call_line : Plan → Pair → List ℕ
call_line p k =
    codes "CODE " ++ (figures_of p k.code ++ (codes " FROM "
    ++ (exchange_name p k.exchange ++ codes "\n")))

-- What was asked, the groups that are down, and the calls that can pass. The plan has no list with
-- a group that is down.
abbrev pub through_text : Plan → (down : List ℕ) → Through → List ℕ
through_text p down t =
    codes "TRACE THROUGH " ++ (through_name p t ++ (codes "\n" ++ (down_line p down
    ++ flat_map (call_line p) (calls_through p t))))
