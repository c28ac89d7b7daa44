-- The groups of a plan with the states of their circuits, and how they are kept in one vector.
use Rattle.std.specs.Prelude.{◌≡◌, ℕ, zero, suc, ◌+◌, ◌<◌, ◌≤◌, Bool, false, ◌&&◌, ◌==◌, if◌then◌else◌, List, [], ◌∷◌, map, length, find, replicate, Option, Some, None, option_and_then, slice_get, slice_set, ◌⊎◌}
use Rattle.std.specs.List.{between}
use Rattle.tx_plan.specs.declared.ids.Circuit.{Circuit}
use Rattle.tx_plan.specs.Circuits.{is_both}
use Rattle.tx_circuits.specs.declared.lists.End.{End}
use Rattle.tx_circuits.specs.declared.lists.End.TheVariants.{First, Other}
use Rattle.tx_circuits.specs.declared.lists.Way.{Way}
use Rattle.tx_circuits.specs.declared.lists.Way.TheVariants.{Up, Down}
use Rattle.tx_circuits.specs.declared.slot.CircuitState.{CircuitState}
use Rattle.tx_circuits.specs.declared.slot.Slot.{Slot}
use Rattle.tx_circuits.specs.declared.groups.GroupHead.{GroupHead}
use Rattle.tx_circuits.specs.declared.groups.Row.{Row}
use Rattle.tx_circuits.specs.inner.Slots.{state_of, free_in, in_order, links_among, IsSound}

-- a group, with the states of its circuits in order of number
pub record GroupState : Type 0 where
  pub head : GroupHead
  pub states : List CircuitState

-- the end at which an exchange seizes, if it may
abbrev pub seizing_end : GroupHead → ℕ → Option End
seizing_end t x = if t.a == x then Some First
    else if is_both t.direction && (t.b == x) then Some Other else None

-- the entry of a number, counted from 1
abbrev pub entry_numbered : {A : Type 0} → List A → ℕ → Option A
entry_numbered xs zero = None
entry_numbered xs (suc n) = slice_get xs n

-- the state of a circuit, if the groups have it
abbrev pub state_at : List GroupState → Circuit → Option CircuitState
state_at ts x = option_and_then (λ t. entry_numbered t.states x.number) (slice_get ts x.group)

-- the end at which an exchange seizes circuits of a group, if it may
abbrev pub end_at : List GroupState → ℕ → ℕ → Option End
end_at ts g x = option_and_then (λ t. seizing_end t.head x) (slice_get ts g)

-- the list with one entry changed
abbrev pub change_at : {A : Type 0} → (A → A) → ℕ → List A → List A
change_at f index [] = []
change_at f zero (x ∷ xs) = f x ∷ xs
change_at f (suc index) (x ∷ xs) = x ∷ change_at f index xs

-- the list with another entry of a number, counted from 1
abbrev pub set_numbered : {A : Type 0} → List A → ℕ → A → List A
set_numbered xs zero y = xs
set_numbered xs (suc n) y = slice_set xs n y

-- the group with another state of a circuit
abbrev pub with_state : Circuit → CircuitState → GroupState → GroupState
with_state x to t = record t { states = set_numbered t.states x.number to }

-- the group, failed or not
abbrev pub with_failed : Bool → GroupState → GroupState
with_failed to t = record t { head = record t.head { failed = to } }

-- the group, blocked or not
abbrev pub with_blocked : Bool → GroupState → GroupState
with_blocked to t = record t { head = record t.head { blocked = to } }

-- the first end looks upward from the least index, the other downward from the greatest
abbrev pub way_of : End → Way
way_of First = Up
way_of Other = Down

-- the first free index of a group, as an end looks
abbrev pub first_index : GroupState → End → Option ℕ
first_index t end = find (free_in end t.states) (in_order (way_of end) (length t.states))

-- where no call holds a circuit, and it is in service
abbrev pub idle : CircuitState
idle = record {
  seized_first = false;
  seized_other = false;
  carried = false;
  releasing = false;
  out = false;
}

-- the slot at an index where all of n circuits are free
abbrev pub free_slot : ℕ → ℕ → Slot
free_slot n index = record { state = idle; first = links_among n index; other = links_among n index }

-- the slots of a group
abbrev pub group_slots : List Slot → Row → List Slot
group_slots slots r = between r.start (r.start + r.count) slots

-- the states of its circuits
abbrev pub states_in : List Slot → Row → List CircuitState
states_in slots r = map state_of (group_slots slots r)

-- a group with the states that its slots say
abbrev pub group_state : List Slot → Row → GroupState
group_state slots r = record { head = r.head; states = states_in slots r }

-- two groups have no slot in common
abbrev pub AreApart : Row → Row → Type 0
AreApart r s = (r.start + r.count ≤ s.start) ⊎ (s.start + s.count ≤ r.start)

-- all groups apart from this one have the slots that they had
abbrev pub OthersStay : List Slot → List Slot → Row → Type 0
OthersStay old new r = (s : Row) → AreApart r s → group_slots new s ≡ group_slots old s

-- The groups lie in the vector one after another, and the free lists of each are sound: for each
-- end, the links followed from the head give the circuits that are free there, in that end's order.
pub record AreKept (slots : List Slot) (rows : List Row) : Type 0 where
  pub within : (g : ℕ) (r : Row) → slice_get rows g ≡ Some r → r.start + r.count ≤ length slots
  pub apart : (g h : ℕ) (r s : Row) → slice_get rows g ≡ Some r
      → slice_get rows h ≡ Some s → g < h → r.start + r.count ≤ s.start
  pub sound : (g : ℕ) (r : Row) → slice_get rows g ≡ Some r → IsSound (group_slots slots r) r.lists

-- The slots of one group more, all free, are after those of the others.
pub record IsAppended (old new : List Slot) (head : GroupHead)
    (count : ℕ) (row : Row) : Type 0 where
  pub head_is : row.head ≡ head
  pub start_is : row.start ≡ length old
  pub count_is : row.count ≡ count
  pub grown : length new ≡ length old + count
  pub sound : IsSound (group_slots new row) row.lists
  pub states : map state_of (group_slots new row) ≡ replicate count idle
  pub others : (s : Row) → s.start + s.count ≤ length old → group_slots new s ≡ group_slots old s
