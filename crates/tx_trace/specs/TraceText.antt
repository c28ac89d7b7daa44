-- The trace of calls for a code from an exchange, as it is written.
use Rattle.std.specs.Prelude.{ℕ, ◌==◌, if◌then◌else◌, List, [], ◌∷◌, ◌++◌, codes, decimal, Option, Some, None}
use Rattle.std.specs.List.{flat_map, enumerate_from}
use Rattle.std.specs.Option.{option_map_or}
use Rattle.tx_plan.specs.Plan.{Plan, exchange_name, figures_of, group_name, home_of}
use Rattle.tx_plan.specs.Circuits.{other_end}
use Rattle.tx_plan.specs.Routes.{route_list, is_barred}
pub use Rattle.tx_rank.specs.Report.{step_text}
use Rattle.tx_trace.specs.Ways.{first_way, all_met}
use Rattle.tx_trace.specs.Heights.{rank_from}

-- what was asked, as in `TRACE 24 FROM NORTH`
abbrev pub head_line : Plan → (c x : ℕ) → List ℕ
head_line p c x =
    codes "TRACE " ++ (figures_of p c ++ (codes " FROM " ++ (exchange_name p x ++ codes "\n")))

-- the groups that are down, as in `DOWN NOSO1`, if some are
abbrev pub down_line : Plan → (down : List ℕ) → List ℕ
down_line p [] = []
down_line p (g ∷ gs) =
    codes "DOWN" ++ (flat_map (λ h. codes " " ++ group_name p h) (g ∷ gs) ++ codes "\n")

-- that a bar keeps calls for the code from starting at x, as in `BARRED NORTH 24`; else nothing
abbrev pub bar_line : Plan → (c x : ℕ) → List ℕ
bar_line p c x =
    if is_barred p x c
    then codes "BARRED " ++ (exchange_name p x ++ (codes " " ++ (figures_of p c ++ codes "\n")))
    else []

-- where a way starts, and its steps
abbrev pub way_text : Plan → ℕ → List (ℕ × ℕ) → List ℕ
way_text p x way = exchange_name p x ++ (flat_map (step_text p) way ++ codes "\n")

-- the first way, as in `FIRST NORTH NOSO1 SOUTH`
abbrev pub way_line : Plan → ℕ → List (ℕ × ℕ) → List ℕ
way_line p x way = codes "FIRST " ++ way_text p x way

-- the home, as in `HOME SOUTH`
abbrev pub home_line : Plan → ℕ → List ℕ
home_line p y = codes "HOME " ++ (exchange_name p y ++ codes "\n")

-- an exchange has a rank, or has none
abbrev pub rank_text : Option ℕ → List ℕ
rank_text None = []
rank_text (Some r) = codes " RANK " ++ decimal r

-- a group in the list of y: its place, its name, where it leads, and the rank of that exchange, as
-- in `LIST NORTH 1 NOSO1 SOUTH RANK 0`
abbrev pub place_text : Plan → (ranks : ℕ → Option ℕ) → (y place g z : ℕ) → List ℕ
place_text p ranks y place g z =
    codes "LIST " ++ (exchange_name p y ++ (codes " " ++ (decimal place ++ (codes " "
    ++ (group_name p g ++ (codes " " ++ (exchange_name p z
    ++ (rank_text (ranks z) ++ codes "\n"))))))))

-- the same by its group alone; nothing for a group of which y is no end
abbrev pub place_line : Plan → (ranks : ℕ → Option ℕ) → (y place g : ℕ) → List ℕ
place_line p ranks y place g = option_map_or (place_text p ranks y place g) (other_end p g y) []

-- the groups that y tries for the code, the first with the number 1
abbrev pub list_lines : Plan → (c : ℕ) → (ranks : ℕ → Option ℕ) → (y : ℕ) → List ℕ
list_lines p c ranks y =
    flat_map (λ e. place_line p ranks y e.0 e.1) (enumerate_from 1 (route_list p y c))

-- an exchange that is met: its list, or that it is the home
abbrev pub met_lines : Plan → (c : ℕ) → (ranks : ℕ → Option ℕ) → (y : ℕ) → List ℕ
met_lines p c ranks y = if y == home_of p c then home_line p y else list_lines p c ranks y

-- The trace: what was asked, the first way, and each exchange that is met. The plan has no list
-- with a group that is down.
abbrev pub trace_text : Plan → (down : List ℕ) → (c x : ℕ) → List ℕ
trace_text p down c x =
    head_line p c x ++ (down_line p down ++ (bar_line p c x ++ (way_line p x (first_way p c x)
    ++ flat_map (met_lines p c (rank_from p c x)) (all_met p c x))))
