-- Where a list of two plans differs first, and how long it is.
use Rattle.std.specs.Prelude.{ℕ, Option, Some, None, length}
use Rattle.tx_plan.specs.Plan.{Plan}
use Rattle.tx_plantext.specs.declared.difference.NetworkList.{NetworkList}
use Rattle.tx_plantext.specs.declared.difference.NetworkList.TheVariants.{Exchanges, Codes, Ranges, Groups}
use Rattle.tx_plantext.specs.Difference.{SameList, DiffersFirst}

-- how many entries a list has
abbrev pub entries_in : NetworkList → Plan → ℕ
entries_in Exchanges p = length p.exchanges
entries_in Codes p = length p.codes
entries_in Ranges p = length p.ranges
entries_in Groups p = length p.groups

-- the same list, or the first index at which it differs
abbrev pub ApartAnswer : NetworkList → (p q : Plan) → Option ℕ → Type 0
ApartAnswer list p q None = SameList list p q
ApartAnswer list p q (Some index) = DiffersFirst list p q index
