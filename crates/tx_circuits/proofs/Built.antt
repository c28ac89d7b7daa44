-- A table as it is built.
use Rattle.tx_circuits.proofs.Common.{◌≡◌, ◌∙◌, ℕ, zero, suc, Bool, false, List, [], ◌∷◌, ◌++◌, length, map, take, Option, Some, None, refl, ap, slice_get, option_and_then, replicate, option_map, option_map_or, nat_cmp_total, slice_get-map, length-replicate, exact_unsigned, Plan, Group, Circuit, circuits_total, exact_circuits, End, First, Other, CircuitState, GroupHead, has_seized, rising, GroupState, entry_numbered, end_at, idle, group_of, circuits_of, seats_of, gathered_keys, is_marked, holds, sits, table_of}
use Rattle.tx_plan.specs.Circuits.{direction_of, count_of, ends_of}
use Rattle.tx_plan.specs.declared.ids.Direction.TheVariants.{OneWay}
use Rattle.tx_circuits.specs.Table.{Seat, all_free, without_name}
use Rattle.tx_circuits.proofs.Seats.{seats_total, exact_seats}
use Rattle.tx_circuits.proofs.Those.{those_none}

-- a group with all its circuits idle
abbrev pub fresh : Group → GroupState
fresh r = record { head = record { a = r.a; b = r.b; direction = r.direction; failed = false; blocked = false }; states = replicate r.count idle }

module _ (gs : List Group) where
  unmarked : (test : GroupHead → Bool) → ((r : Group) → test (fresh r).head ≡ false) → (g : ℕ) → is_marked test (map fresh gs) g ≡ false
  unmarked test off g = ap (λ o. option_map_or (λ t. test t.head) o false) (slice_get-map fresh gs g) ∙ each (slice_get gs g)
    where
      each : (o : Option Group) → option_map_or (λ t. test t.head) (option_map fresh o) false ≡ false
      each None = refl
      each (Some r) = off r

  idle_in : (test : CircuitState → Bool) → test idle ≡ false → (n m : ℕ) → option_map_or test (entry_numbered (replicate n idle) m) false ≡ false
  idle_in test off n zero = refl
  idle_in test off n (suc m) = inside n m
    where
      inside : (n m : ℕ) → option_map_or test (slice_get (replicate n idle) m) false ≡ false
      inside zero m = refl
      inside (suc n) zero = off
      inside (suc n) (suc m) = inside n m

  holds_none : (test : CircuitState → Bool) → test idle ≡ false → (c : Circuit) → holds test (map fresh gs) c ≡ false
  holds_none test off c = ap (λ o. option_map_or test (option_and_then (λ t. entry_numbered t.states c.number) o) false) (slice_get-map fresh gs c.group) ∙ each (slice_get gs c.group)
    where
      each : (o : Option Group) → option_map_or test (option_and_then (λ t. entry_numbered t.states c.number) (option_map fresh o)) false ≡ false
      each None = refl
      each (Some r) = idle_in test off r.count c.number

  sits_none : (q : Seat) → sits (map fresh gs) q ≡ false
  sits_none q = each (end_at (map fresh gs) q.0.group q.1)
    where
      each : (o : Option End) → option_map_or (λ end. holds (has_seized end) (map fresh gs) q.0) o false ≡ false
      each None = refl
      each (Some First) = holds_none (has_seized First) refl q.0
      each (Some Other) = holds_none (has_seized Other) refl q.0

groups_fresh : (gs : List Group) → map group_of (map fresh gs) ≡ map without_name gs
groups_fresh [] = refl
groups_fresh (r ∷ gs) = λ i. record { name = []; a = r.a; b = r.b; direction = r.direction; count = length-replicate r.count idle i } ∷ groups_fresh gs i

pub built_is : (p : Plan) → table_of (map fresh p.groups) ≡ all_free p
built_is p = λ i. record {
  groups = groups_fresh p.groups i;
  failed = those_none nat_cmp_total exact_unsigned (is_marked (λ t. t.failed) (map fresh p.groups)) (rising (length (map fresh p.groups))) (unmarked p.groups (λ t. t.failed) (λ r. refl)) i;
  blocked = those_none nat_cmp_total exact_unsigned (is_marked (λ t. t.blocked) (map fresh p.groups)) (rising (length (map fresh p.groups))) (unmarked p.groups (λ t. t.blocked) (λ r. refl)) i;
  releasing = those_none circuits_total exact_circuits (holds (λ s. s.releasing) (map fresh p.groups)) (gathered_keys circuits_of 0 (map fresh p.groups)) (holds_none p.groups (λ s. s.releasing) refl) i;
  out = those_none circuits_total exact_circuits (holds (λ s. s.out) (map fresh p.groups)) (gathered_keys circuits_of 0 (map fresh p.groups)) (holds_none p.groups (λ s. s.out) refl) i;
  carried = those_none circuits_total exact_circuits (holds (λ s. s.carried) (map fresh p.groups)) (gathered_keys circuits_of 0 (map fresh p.groups)) (holds_none p.groups (λ s. s.carried) refl) i;
  seized = those_none seats_total exact_seats (sits (map fresh p.groups)) (gathered_keys seats_of 0 (map fresh p.groups)) (sits_none p.groups) i;
}

-- one group more
pub fresh_push : (gs : List Group) (k : ℕ) (r : Group) → slice_get gs k ≡ Some r → map fresh (take (suc k) gs) ≡ map fresh (take k gs) ++ fresh r ∷ []
fresh_push [] k r e = absurd cc
fresh_push (g ∷ gs) zero r e = ap (λ (o : Option Group). fresh (or_g o) ∷ []) e
  where
    or_g : Option Group → Group
    or_g None = g
    or_g (Some w) = w
fresh_push (g ∷ gs) (suc k) r e = ap (λ (l : List GroupState). fresh g ∷ l) (fresh_push gs k r e)

-- a group as the plan's readers tell it
pub fresh_is : (p : Plan) (k : ℕ) (r : Group) → slice_get p.groups k ≡ Some r
    → record { head = record { a = (ends_of p k).0; b = (ends_of p k).1; direction = direction_of p k; failed = false; blocked = false }; states = replicate (count_of p k) idle } ≡ fresh r
fresh_is p k r at = ap told at
  where
    ends : Option Group → ℕ × ℕ
    ends o = option_map_or (λ g. (g.a, g.b)) o (0, 0)

    told : Option Group → GroupState
    told o = record {
      head = record { a = (ends o).0; b = (ends o).1; direction = option_map_or (λ g. g.direction) o OneWay; failed = false; blocked = false };
      states = replicate (option_map_or (λ g. g.count) o 0) idle;
    }
