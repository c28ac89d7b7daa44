-- What the marks of a list of bits mean.
use Rattle.std.specs.Prelude.{ℕ, ◌+◌, ◌-◌, ◌*◌, ◌/◌, ◌%◌, ◌<◌, ◌≤◌, Bool, if◌then◌else◌, List, [], ◌∷◌, map, ◌≡◌, ◌&&◌, nat_le, length, get_or, false, refl}
use Rattle.std.specs.Ordering.{nat_cmp}
use Rattle.std.specs.FinSet as set
use Rattle.std.specs.Coded.{Coded, code_by, coded×, coded_ℕ}
use Rattle.tx_plan.specs.Orders.{circuit_cmp, coded_circuit}
use Rattle.tx_plan.specs.declared.ids.Circuit.{Circuit}

-- where the bits are set, counted from k
abbrev pub indexes : ℕ → List Bool → List ℕ
indexes k [] = []
indexes k (b ∷ bits) = if b then k ∷ indexes (k + 1) bits else indexes (k + 1) bits

-- each group has 240 indexes
abbrev pub circuit_at : ℕ → Circuit
circuit_at k = record { group = k / 240; number = k % 240 + 1 }

-- the index of a circuit
abbrev pub index_of : Circuit → ℕ
index_of x = 240 * x.group + (x.number - 1)

-- the circuits whose bits are set
abbrev pub circuits_of : List Bool → set.FinSet circuit_cmp
circuits_of bits = set.from_list (map circuit_at (indexes 0 bits))

-- the groups whose bits are set
abbrev pub groups_of : List Bool → set.FinSet nat_cmp
groups_of bits = set.from_list (indexes 0 bits)

-- the circuits that are marked, among those of so many groups
pub record Circuits : Type 0 where
  pub marked : set.FinSet circuit_cmp
  pub groups : ℕ

-- marked circuits are stored as a set and a number
abbrev pub circuits_code : Coded Circuits
circuits_code = code_by (set.FinSet circuit_cmp × ℕ) (coded× (set.code coded_circuit) coded_ℕ)
    (λ c. (c.marked, c.groups)) (λ p. record { marked = p.0; groups = p.1 }) (λ _. refl)

-- the groups that are marked, among so many
pub record Groups : Type 0 where
  pub marked : set.FinSet nat_cmp
  pub groups : ℕ

-- marked groups are stored as a set and a number
abbrev pub groups_code : Coded Groups
groups_code = code_by (set.FinSet nat_cmp × ℕ) (coded× (set.code coded_ℕ) coded_ℕ)
    (λ c. (c.marked, c.groups)) (λ p. record { marked = p.0; groups = p.1 }) (λ _. refl)

-- a circuit that has a mark
pub record HasMark (groups : ℕ) (x : Circuit) : Type 0 where
  pub group : x.group < groups
  pub first : 1 ≤ x.number
  pub last : x.number ≤ 240

-- the bits of a group up to n are cleared, and no others
pub record IsCleared (g n : ℕ) (old new : List Bool) : Type 0 where
  pub long : length new ≡ length old
  pub bits : (j : ℕ) → get_or new j false
      ≡ (if nat_le (240 * g) j && nat_le (j + 1) (240 * g + n) then false else get_or old j false)
