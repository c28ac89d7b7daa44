-- What the slots of a group say of its circuits. Circuit number n is at index n - 1.
use Rattle.std.specs.Prelude.{ℕ, zero, suc, ◌+◌, ◌-◌, ◌≤◌, if◌then◌else◌, Bool, false, not, ◌&&◌, List, [], ◌∷◌, ◌++◌, map, filter, length, nat_lt, Option, Some, None, slice_index_or}
use Rattle.tx_circuits.specs.declared.lists.End.{End}
use Rattle.tx_circuits.specs.declared.lists.End.TheVariants.{First, Other}
use Rattle.tx_circuits.specs.declared.lists.Way.{Way}
use Rattle.tx_circuits.specs.declared.lists.Way.TheVariants.{Up, Down}
use Rattle.tx_circuits.specs.declared.slot.CircuitState.{CircuitState}
use Rattle.tx_circuits.specs.declared.lists.Links.{Links}
use Rattle.tx_circuits.specs.declared.slot.Slot.{Slot}
use Rattle.tx_circuits.specs.declared.lists.FreeList.{FreeList}
use Rattle.tx_circuits.specs.declared.lists.FreeLists.{FreeLists}
use Rattle.tx_circuits.specs.inner.Linked.{Follows, IsLinked, IsLast}

-- the opposite end
abbrev pub opposite : End → End
opposite First = Other
opposite Other = First

-- the way back
abbrev pub back : Way → Way
back Up = Down
back Down = Up

-- the end has seized the circuit
abbrev pub has_seized : End → CircuitState → Bool
has_seized First s = s.seized_first
has_seized Other s = s.seized_other

-- the end has seized the circuit, or gave it up
abbrev pub with_seized : End → Bool → CircuitState → CircuitState
with_seized First to s = record s { seized_first = to }
with_seized Other to s = record s { seized_other = to }

-- no call carries the circuit, it is not releasing, it is not out, and the end has not seized it
abbrev pub is_free : End → CircuitState → Bool
is_free end s = not s.carried && (not s.releasing && (not s.out && not (has_seized end s)))

-- the state of a circuit
abbrev pub state_of : Slot → CircuitState
state_of s = s.state

-- the links of a circuit in the list of an end
abbrev pub links_of : End → Slot → Links
links_of First s = s.first
links_of Other s = s.other

-- what comes after the links' index in a way
abbrev pub ahead : Way → Links → Option ℕ
ahead Up l = l.above
ahead Down l = l.below

-- what begins the list in a way
abbrev pub begins : Way → FreeList → Option ℕ
begins Up l = l.least
begins Down l = l.greatest

-- the least index from one on, of n
abbrev pub least_from : ℕ → ℕ → Option ℕ
least_from low n = if nat_lt low n then Some low else None

-- the greatest index before one
abbrev pub greatest_before : ℕ → Option ℕ
greatest_before zero = None
greatest_before (suc k) = Some k

-- the links at an index where all of n circuits are free
abbrev pub links_among : ℕ → ℕ → Links
links_among n index = record { above = least_from (index + 1) n; below = greatest_before index }

-- and the list of these circuits
abbrev pub list_of_all : ℕ → FreeList
list_of_all n = record { least = least_from 0 n; greatest = greatest_before n }

-- the list of an end
abbrev pub list_of : End → FreeLists → FreeList
list_of First l = l.first
list_of Other l = l.other

-- indexes in rising order of rank: upward from the first, downward from the last
abbrev pub rank_of : Way → ℕ → ℕ
rank_of Up index = index
rank_of Down index = 255 - index

-- the circuit at an index is free at an end, by the states of all
abbrev pub free_in : End → List CircuitState → ℕ → Bool
free_in end states index = slice_index_or (map (is_free end) states) index false

-- the circuit at an index is free at an end
abbrev pub free_at : End → List Slot → ℕ → Bool
free_at end slots index = free_in end (map state_of slots) index

-- what comes after an index in the list of an end
abbrev pub link_at : End → Way → List Slot → ℕ → Option ℕ
link_at end way slots index =
    slice_index_or (map (λ s. ahead way (links_of end s)) slots) index None

-- what follows an index in the list of an end, or begins the list
abbrev pub chain : End → Way → List Slot → FreeList → Option ℕ → Option ℕ
chain end way slots list None = begins way list
chain end way slots list (Some k) = link_at end way slots k

-- both ways
abbrev pub IsListed : (ℕ → Bool) → End → List Slot → FreeList → Type 0
IsListed free end slots list = (way : Way) → IsLinked free (rank_of way) (chain end way slots list)

-- the neighbours that an index has, or would have, in a list
abbrev pub AreNeighbours : (ℕ → Bool) → ℕ → Links → Type 0
AreNeighbours free index links = (way : Way)
    → IsLast free (rank_of way) (rank_of way index) (ahead (back way) links)

-- the lists of both ends are linked so
abbrev pub AreLinked : List Slot → FreeLists → Type 0
AreLinked slots lists = (end : End) → IsListed (free_at end slots) end slots (list_of end lists)

-- the indexes of n circuits, rising and falling
abbrev pub rising : ℕ → List ℕ
rising zero = []
rising (suc n) = rising n ++ n ∷ []

-- and falling
abbrev pub falling : ℕ → List ℕ
falling zero = []
falling (suc n) = n ∷ falling n

-- the indexes in a way
abbrev pub in_order : Way → ℕ → List ℕ
in_order Up n = rising n
in_order Down n = falling n

-- For each end, the links followed from the list's head give exactly the circuits that are free at
-- that end: upward from the least in rising order, and downward from the greatest in falling order.
pub record IsSound (slots : List Slot) (lists : FreeLists) : Type 0 where
  pub short : length slots ≤ 240
  pub followed : (end : End) (way : Way) → Follows (chain end way slots (list_of end lists)) None
      (filter (free_at end slots) (in_order way (length slots)))

-- the free indexes below n alone
abbrev pub until : ℕ → (ℕ → Bool) → ℕ → Bool
until n free k = nat_lt k n && free k

-- no call holds the circuit any more; it stays out of service if it was
abbrev pub cleared_state : CircuitState → CircuitState
cleared_state s = record {
  seized_first = false;
  seized_other = false;
  carried = false;
  releasing = false;
  out = s.out;
}
