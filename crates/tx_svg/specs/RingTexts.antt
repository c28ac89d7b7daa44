-- What the picture of the network shows.
use Rattle.std.specs.Prelude.{ℕ, nat_le, if◌then◌else◌, List, [], ◌∷◌, length}
use Rattle.tx_plan.specs.Plan.{Plan, exchange_name}
use Rattle.tx_svg.specs.Indexed.{texts_below}

-- the name of an exchange
abbrev pub name_texts : Plan → ℕ → List (List ℕ)
name_texts p x = exchange_name p x ∷ []

-- its exchanges; a network of more than 24 exchanges has no picture
abbrev pub ring_texts : Plan → List (List ℕ)
ring_texts p = if nat_le (length p.exchanges) 24
    then texts_below (length p.exchanges) (name_texts p) else []
