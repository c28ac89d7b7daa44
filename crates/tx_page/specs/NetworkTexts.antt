-- What a page shows of the network.
use Rattle.std.specs.Prelude.{ℕ, ◌==◌, if◌then◌else◌, List, [], ◌∷◌, ◌++◌, length, codes}
use Rattle.tx_html.specs.Amounts.{amount}
use Rattle.tx_plan.specs.Plan.{Plan, exchange_name, figures_of, group_name, home_of}
use Rattle.tx_plan.specs.Circuits.{ends_of, count_of, direction_of}
use Rattle.tx_plan.specs.declared.ids.Direction.{Direction}
use Rattle.tx_plan.specs.declared.ids.Direction.TheVariants.{OneWay, BothWay}
use Rattle.tx_svg.specs.Indexed.{texts_below}
use Rattle.tx_svg.specs.RingTexts.{ring_texts}

-- a code, if it is at home at x
abbrev pub home_texts : Plan → (x c : ℕ) → List (List ℕ)
home_texts p x c = if home_of p c == x then figures_of p c ∷ [] else []

-- an exchange, and the codes that are at home there
abbrev pub exchange_texts : Plan → ℕ → List (List ℕ)
exchange_texts p x = exchange_name p x ∷ texts_below (length p.codes) (home_texts p x)

-- from where a group is seized
abbrev pub seized_from : Direction → List ℕ
seized_from OneWay = codes "its first end"
seized_from BothWay = codes "both ends"

-- a group, its ends, from where it is seized, and how many circuits it has
abbrev pub group_texts : Plan → ℕ → List (List ℕ)
group_texts p g = group_name p g ∷ exchange_name p (ends_of p g).0
    ∷ exchange_name p (ends_of p g).1 ∷ seized_from (direction_of p g)
    ∷ amount (count_of p g) ∷ []

-- the picture, the exchanges, and then the groups, in order of declaration
abbrev pub network_texts : Plan → List (List ℕ)
network_texts p = ring_texts p ++ (texts_below (length p.exchanges) (exchange_texts p)
    ++ texts_below (length p.groups) (group_texts p))
