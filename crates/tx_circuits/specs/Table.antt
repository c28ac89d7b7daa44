-- What contracts see of the states of all circuits: sets.
use Rattle.std.specs.Prelude.{◌≡◌, ℕ, Bool, true, not, ◌&&◌, ◌||◌, ◌==◌, if◌then◌else◌, List, [], map, find, Option, None, refl}
use Rattle.std.specs.Ordering.{ordering_then, nat_cmp}
use Rattle.std.specs.declared.cmp.Ordering.{Ordering}
use Rattle.std.specs.Coded.{Coded, code_by, coded×, coded_ℕ, coded_list}
use Rattle.std.specs.FinSet as set
use Rattle.tx_plan.specs.Plan.{Plan, Group, no_plan}
use Rattle.tx_plan.specs.Circuits.{circuits_at}
use Rattle.tx_plan.specs.Orders.{same_circuit, circuit_cmp, coded_circuit}
use Rattle.tx_plan.specs.declared.ids.Circuit.{Circuit}
use Rattle.tx_circuits.specs.Codes.{group_code}

-- an end of a circuit: the circuit, and the exchange
abbrev pub Seat : Type 0
Seat = Circuit × ℕ

-- by circuit, and then by exchange
abbrev pub seat_cmp : Seat → Seat → Ordering
seat_cmp s t = ordering_then (circuit_cmp s.0 t.0) (nat_cmp s.1 t.1)

-- The groups of a plan, without their names; the groups that have failed or are blocked; the
-- circuits that are releasing, out of service or carried;
-- and each circuit with an exchange that has seized it.
pub record Table : Type 0 where
  pub groups : List Group
  pub failed : set.FinSet nat_cmp
  pub blocked : set.FinSet nat_cmp
  pub releasing : set.FinSet circuit_cmp
  pub out : set.FinSet circuit_cmp
  pub carried : set.FinSet circuit_cmp
  pub seized : set.FinSet seat_cmp

-- a group without its name
abbrev pub without_name : Group → Group
without_name g = record g { name = [] }

-- what the table knows of the plan: its groups
abbrev pub plan_of : Table → Plan
plan_of t = record no_plan { groups = t.groups }

-- all circuits are free, and all groups up
abbrev pub all_free : Plan → Table
all_free p = record {
  groups = map without_name p.groups;
  failed = set.empty;
  blocked = set.empty;
  releasing = set.empty;
  out = set.empty;
  carried = set.empty;
  seized = set.empty;
}

-- Free at an exchange: no call carries the circuit, it is not releasing, it is not out of service,
-- and the exchange has not seized it. A seizure from the other end is not seen.
abbrev pub is_free_at : Table → ℕ → Circuit → Bool
is_free_at t x c = not (set.contains t.carried c) && (not (set.contains t.releasing c)
    && (not (set.contains t.out c) && not (set.contains t.seized (c, x))))

-- a group is down if it has failed or is blocked
abbrev pub is_down : Table → ℕ → Bool
is_down t g = set.contains t.failed g || set.contains t.blocked g

-- the circuit that an exchange takes next in a group, if the group is up
abbrev pub first_free : Table → ℕ → ℕ → Option Circuit
first_free t x g = if is_down t g then None else find (is_free_at t x) (circuits_at (plan_of t) g x)

-- the exchange has seized the circuit, and no other has
pub record IsSeizedBy (t : Table) (c : Circuit) (x : ℕ) : Type 0 where
  pub this : set.contains t.seized (c, x) ≡ true
  pub no_other : (y : ℕ) → set.contains t.seized (c, y) ≡ true → y ≡ x

-- the circuit is carried, and no longer seized
abbrev pub with_held : Table → Circuit → Table
with_held t c = record t {
  seized = set.retain t.seized (λ s. not (same_circuit s.0 c));
  carried = set.insert t.carried c;
}

-- the circuit is releasing, and no longer carried
abbrev pub with_released : Table → Circuit → Table
with_released t c = record t {
  carried = set.remove t.carried c;
  releasing = set.insert t.releasing c;
}

-- an exchange gave its seizure of the circuit up
abbrev pub withdrawn : Table → Circuit → ℕ → Table
withdrawn t c x = record t { seized = set.remove t.seized (c, x) }

-- the circuit is releasing unless an exchange has seized it
abbrev pub released_unless : ℕ → Circuit → Table → Table
released_unless x c t = if set.contains t.seized (c, x) then t else with_released t c

-- the group has failed: none of its circuits is carried, seized or releasing
abbrev pub with_failure : Table → ℕ → Table
with_failure t g = record t {
  failed = set.insert t.failed g;
  releasing = set.retain t.releasing (λ c. not (c.group == g));
  carried = set.retain t.carried (λ c. not (c.group == g));
  seized = set.retain t.seized (λ s. not (s.0.group == g));
}

-- an end of a circuit is stored as a pair
abbrev pub seat_code : Coded Seat
seat_code = coded× coded_circuit coded_ℕ

-- a table is stored as its fields
abbrev pub table_code : Coded Table
table_code = code_by (List Group
    × (set.FinSet nat_cmp × (set.FinSet nat_cmp × (set.FinSet circuit_cmp × (set.FinSet circuit_cmp
    × (set.FinSet circuit_cmp × set.FinSet seat_cmp)))))) (coded× (coded_list group_code)
    (coded× (set.code coded_ℕ) (coded× (set.code coded_ℕ) (coded× (set.code coded_circuit)
    (coded× (set.code coded_circuit) (coded× (set.code coded_circuit) (set.code seat_code)))))))
    (λ t. (t.groups, (t.failed, (t.blocked, (t.releasing, (t.out, (t.carried, t.seized)))))))
    (λ p. record {
      groups = p.0;
      failed = p.1.0;
      blocked = p.1.1.0;
      releasing = p.1.1.1.0;
      out = p.1.1.1.1.0;
      carried = p.1.1.1.1.1.0;
      seized = p.1.1.1.1.1.1;
    }) (λ _. refl)
