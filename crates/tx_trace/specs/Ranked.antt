-- Whether calls for a code that start at one exchange can be ranked.
use Rattle.std.specs.Prelude.{ℕ, ◌==◌, Option}
use Rattle.tx_plan.specs.Plan.{Plan}
use Rattle.tx_rank.specs.Walks.{Net, net_of}
use Rattle.tx_rank.specs.Nets.{Certifies}

-- the network of a plan for the code c, where calls start at x alone
abbrev pub net_from : Plan → (c x : ℕ) → Net
net_from p c x = record (net_of p c) { is_origin = λ y. y == x }

-- with some limit, and without a spare group, some ranks certify the code for these calls
abbrev pub CanBeRankedFrom : Plan → (c x : ℕ) → Type 0
CanBeRankedFrom p c x =
    (limit : ℕ) × (ranks : ℕ → Option ℕ) × Certifies (net_from p c x) ranks limit 0
