-- The first entry in which two plans are not of one network.
use Rattle.std.specs.Prelude.{◌≡◌, ℕ, ◌<◌, Option, Some, None, slice_get}
use Rattle.tx_plan.specs.Plan.{Plan}
use Rattle.tx_plan.specs.Mixtures.{SameNetwork}
use Rattle.tx_plantext.specs.declared.difference.NetworkList.{NetworkList}
use Rattle.tx_plantext.specs.declared.difference.NetworkList.TheVariants.{Exchanges, Codes, Ranges, Groups}
use Rattle.tx_plantext.specs.declared.difference.Difference.{Difference}

-- at an index of a list both plans have the same entry, or both have none
abbrev pub SameAt : NetworkList → (p q : Plan) → ℕ → Type 0
SameAt Exchanges p q i = slice_get p.exchanges i ≡ slice_get q.exchanges i
SameAt Codes p q i = slice_get p.codes i ≡ slice_get q.codes i
SameAt Ranges p q i = slice_get p.ranges i ≡ slice_get q.ranges i
SameAt Groups p q i = slice_get p.groups i ≡ slice_get q.groups i

-- both plans have the same list
abbrev pub SameList : NetworkList → (p q : Plan) → Type 0
SameList list p q = (i : ℕ) → SameAt list p q i

-- the first index at which their lists differ
pub record DiffersFirst (list : NetworkList) (p q : Plan) (index : ℕ) : Type 0 where
  pub before : (i : ℕ) → i < index → SameAt list p q i
  pub here : SameAt list p q index → ⊥

-- the lists before this one are the same
abbrev pub SameBefore : NetworkList → (p q : Plan) → Type 0
SameBefore Exchanges p q = Unit {0}
SameBefore Codes p q = SameList Exchanges p q
SameBefore Ranges p q = SameList Exchanges p q × SameList Codes p q
SameBefore Groups p q = SameList Exchanges p q × SameList Codes p q × SameList Ranges p q

-- one network, or the first list that differs, and its first entry that does
abbrev pub DifferenceAnswer : (p q : Plan) → Option Difference → Type 0
DifferenceAnswer p q None = SameNetwork p q
DifferenceAnswer p q (Some d) = SameBefore d.list p q × DiffersFirst d.list p q d.index
