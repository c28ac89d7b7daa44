-- The groups with the states of their circuits, seen as sets.
use Rattle.std.specs.Prelude.{ℕ, suc, Bool, false, List, [], ◌∷◌, ◌++◌, map, filter, length, slice_get}
use Rattle.std.specs.Option.{option_map_or}
use Rattle.std.specs.declared.cmp.Ordering.{Ordering}
use Rattle.std.specs.FinSet as set
use Rattle.tx_plan.specs.Plan.{Group}
use Rattle.tx_plan.specs.Circuits.{upward}
use Rattle.tx_plan.specs.declared.ids.Circuit.{Circuit}
use Rattle.tx_circuits.specs.declared.slot.CircuitState.{CircuitState}
use Rattle.tx_circuits.specs.declared.groups.GroupHead.{GroupHead}
use Rattle.tx_circuits.specs.inner.Slots.{has_seized, rising}
use Rattle.tx_circuits.specs.inner.Groups.{GroupState, state_at, end_at}
use Rattle.tx_circuits.specs.Table.{Table, Seat}

-- those of a list that pass a test, as a set
abbrev pub those : {K : Type 0} {R : K → K → Ordering} → (K → Bool) → List K → set.FinSet R
those p xs = set.from_list (filter p xs)

-- a group as the plan has it, without its name
abbrev pub group_of : GroupState → Group
group_of t = record {
  name = [];
  a = t.head.a;
  b = t.head.b;
  direction = t.head.direction;
  count = length t.states;
}

-- the circuits of a group
abbrev pub circuits_of : ℕ → GroupState → List Circuit
circuits_of g t = map (λ n. record { group = g; number = n }) (upward (length t.states))

-- both ends of each
abbrev pub seats_of : ℕ → GroupState → List Seat
seats_of g t = map (λ c. (c, t.head.a)) (circuits_of g t)
    ++ map (λ c. (c, t.head.b)) (circuits_of g t)

-- what each group gives, with its index
abbrev pub gathered_keys : {K : Type 0} → (ℕ → GroupState → List K) → ℕ → List GroupState → List K
gathered_keys f g [] = []
gathered_keys f g (t ∷ ts) = f g t ++ gathered_keys f (suc g) ts

-- a test of a group, of a circuit's state, and of an end of a circuit
abbrev pub is_marked : (GroupHead → Bool) → List GroupState → ℕ → Bool
is_marked test ts g = option_map_or (λ t. test t.head) (slice_get ts g) false

-- a test holds of the state of a circuit, and of no foreign one
abbrev pub holds : (CircuitState → Bool) → List GroupState → Circuit → Bool
holds test ts c = option_map_or test (state_at ts c) false

-- the exchange of an end has seized its circuit
abbrev pub sits : List GroupState → Seat → Bool
sits ts s = option_map_or (λ end. holds (has_seized end) ts s.0) (end_at ts s.0.group s.1) false

-- the groups as sets
abbrev pub table_of : List GroupState → Table
table_of ts = record {
  groups = map group_of ts;
  failed = those (is_marked (λ t. t.failed) ts) (rising (length ts));
  blocked = those (is_marked (λ t. t.blocked) ts) (rising (length ts));
  releasing = those (holds (λ s. s.releasing) ts) (gathered_keys circuits_of 0 ts);
  out = those (holds (λ s. s.out) ts) (gathered_keys circuits_of 0 ts);
  carried = those (holds (λ s. s.carried) ts) (gathered_keys circuits_of 0 ts);
  seized = those (sits ts) (gathered_keys seats_of 0 ts);
}
