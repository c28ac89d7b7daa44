-- An exchange gives its seizure of a circuit up, and the circuit is releasing unless the far end keeps it.
use Rattle.tx_circuits.proofs.Common.{◌≡◌, ◌∙◌, ℕ, zero, suc, Bool, true, false, List, [], ◌∷◌, Some, refl, sym, ap, slice_set, is_some, if◌then◌else◌, option_map_or, contains, Circuit, End, CircuitState, has_seized, with_seized, GroupState, state_at, end_at, set_numbered, with_state, change_at, Table, withdrawn, with_released, released_unless, table_of}
use Rattle.tx_circuits.proofs.Members.{Known, known}
use Rattle.tx_circuits.proofs.Reading.{contains_seats}
use Rattle.tx_circuits.proofs.Changes.{state_here, seat_now}
use Rattle.tx_circuits.proofs.Updates.{withdrawn_is, released_is}

set_twice : {A : Type 0} (xs : List A) (n : ℕ) (y z : A) → slice_set (slice_set xs n y) n z ≡ slice_set xs n z
set_twice [] n y z = refl
set_twice (x ∷ xs) zero y z = refl
set_twice (x ∷ xs) (suc n) y z = ap (λ l. x ∷ l) (set_twice xs n y z)

numbered_twice : {A : Type 0} (xs : List A) (n : ℕ) (y z : A) → set_numbered (set_numbered xs n y) n z ≡ set_numbered xs n z
numbered_twice xs zero y z = refl
numbered_twice xs (suc n) y z = set_twice xs n y z

change_twice : (c : Circuit) (s to : CircuitState) (g : ℕ) (ts : List GroupState) → change_at (with_state c to) g (change_at (with_state c s) g ts) ≡ change_at (with_state c to) g ts
change_twice c s to g [] = refl
change_twice c s to zero (t ∷ ts) = λ i. record t { states = numbered_twice t.states c.number s to i } ∷ ts
change_twice c s to (suc g) (t ∷ ts) = ap (λ l. t ∷ l) (change_twice c s to g ts)

module _ (ts : List GroupState) (c : Circuit) (s : CircuitState) (old : state_at ts c ≡ Some s) (end : End) (x : ℕ) (at : end_at ts c.group x ≡ Some end) where
  abbrev left : CircuitState
  left = with_seized end false s

  abbrev mid : List GroupState
  mid = change_at (with_state c left) c.group ts

  here : Known ts c
  here = known ts c (ap is_some old)

  -- whether another exchange has seized the circuit then
  seized_then : (y : ℕ) → contains (withdrawn (table_of ts) c x).seized (c, y) ≡ option_map_or (λ e. has_seized e left) (end_at ts c.group y) false
  seized_then y =
      ap (λ (t : Table). contains t.seized (c, y)) (sym (withdrawn_is ts c s old end x at)) ∙ contains_seats mid (c, y) ∙ seat_now ts c here s left old y (end_at ts c.group y) refl

  unless : (y : ℕ) (b : Bool) → option_map_or (λ e. has_seized e left) (end_at ts c.group y) false ≡ b
      → (if b then withdrawn (table_of ts) c x else with_released (withdrawn (table_of ts) c x) c) ≡ released_unless y c (withdrawn (table_of ts) c x)
  unless y b e = ap (λ a. if a then withdrawn (table_of ts) c x else with_released (withdrawn (table_of ts) c x) c) (sym e ∙ sym (seized_then y))

  pub kept_is : (y : ℕ) → option_map_or (λ e. has_seized e left) (end_at ts c.group y) false ≡ true → table_of (change_at (with_state c left) c.group ts) ≡ released_unless y c (withdrawn (table_of ts) c x)
  kept_is y e = withdrawn_is ts c s old end x at ∙ unless y true e

  pub given_up_is : (y : ℕ) → option_map_or (λ e. has_seized e left) (end_at ts c.group y) false ≡ false
      → table_of (change_at (with_state c (record left { carried = false; releasing = true })) c.group ts) ≡ released_unless y c (withdrawn (table_of ts) c x)
  given_up_is y e =
      ap table_of (sym (change_twice c left (record left { carried = false; releasing = true }) c.group ts))
      ∙ released_is mid c left (state_here ts c here s left old)
      ∙ ap (λ t. with_released t c) (withdrawn_is ts c s old end x at) ∙ unless y false e
