-- Which circuit the one call of a network gets.
use Rattle.std.proofs.Common.{◌≡◌, ◌≢◌, ℕ, ◌<◌, ◌≤◌, ◌==◌, Bool, true, false, ◌&&◌, nat_le, cond, List, [], ◌∷◌, inl, inr, Option, Some, None, refl, sym, ap, ◌∙◌, eqb-true, arith}
use Rattle.std.proofs.lemmas.Bool.{false≢true, ne_eqb, eqb-false, cases_eq, and_from, and_left, and_right, or_right, le-leb}
use Rattle.tx_audit.proofs.Common.{if◌then◌else◌, find, slice_get, is_some, option_map_or, nat_cmp, Plan, Group, route_list, Circuit, Line, Among, Hop, Standing, is_group, Groups, listed_before}
use Rattle.std.specs.FinSet as set
use Rattle.tx_plan.specs.Orders.{same_circuit}
use Rattle.tx_plan.specs.Rules.{IsPlan, IsGroup}
use Rattle.tx_plan.specs.Circuits.{is_circuit, circuits_at, count_of}
use Rattle.tx_machine.specs.InUse.{carries, is_free_at, is_down, first_free, first_in, choice}
use Rattle.tx_machine.proofs.Lists.{any_none, at_index}
use Rattle.tx_machine.proofs.Uses.{chosen}
use Rattle.tx_machine.proofs.Excuses.{circuit_listed}
use Rattle.tx_machine.proofs.OneCall.{alone, on_way, none_circuit}

-- LISTS

pub find_some : {A : Type 0} (t : A → Bool) (xs : List A) (z : A) → Among z xs → t z ≡ true → (y : A) × (find t xs ≡ Some y)
find_some t [] z m h = elim m [ ]
find_some t (x ∷ xs) z m h =
    elim (t x) as (λ b. t x ≡ b → (y : _) × (cond b (Some x) (find t xs) ≡ Some y)) [
      | true ↦ λ e. (x, refl)
      | false ↦ λ e. elim m [ inl q ↦ absurd (false≢true (sym e ∙ (ap t q ∙ h))) | inr k ↦ find_some t xs z k h ]
    ] refl

first_in_at : (look : ℕ → Option Circuit) (gs : List ℕ) (g : ℕ) (y : Circuit) → Among g gs → ((h : ℕ) → Among h (listed_before g gs) → look h ≡ None) → look g ≡ Some y → first_in look gs ≡ Some y
first_in_at look [] g y m none some = absurd m
first_in_at look (h ∷ gs) g y m none some =
    elim (h == g) as (λ b. (h == g) ≡ b → ((k : ℕ) → Among k (if b then [] else h ∷ listed_before g gs) → look k ≡ None) → first_in look (h ∷ gs) ≡ Some y) [
      | true ↦ λ e n. let same : look h ≡ Some y = ap look (eqb-true h g e) ∙ some in rw same refl
      | false ↦ λ e n.
          let down : look h ≡ None = n h (inl refl) in
          let later : Among g gs = elim m [ inl q ↦ absurd (eqb-false h g e q) | inr k ↦ k ] in
          rw down (first_in_at look gs g y later (λ k a. n k (inr a)) some)
    ] refl none

pub first_in_none : (look : ℕ → Option Circuit) (gs : List ℕ) → ((h : ℕ) → Among h gs → look h ≡ None) → first_in look gs ≡ None
first_in_none look [] none = refl
first_in_none look (h ∷ gs) none = let down = none h (inl refl) in rw down (first_in_none look gs (λ k a. none k (inr a)))

-- THE CIRCUITS OF A GROUP

abbrev circuit : ℕ → ℕ → Circuit
circuit g k = record { group = g; number = k }

-- a number up to the count is that of a circuit
numbered : (p : Plan) (g k : ℕ) → 0 < k → k ≤ count_of p g → is_circuit p (circuit g k) ≡ true
numbered p g k some few = at (slice_get p.groups g) few
  where
    at : (o : Option Group) → k ≤ option_map_or (λ r. r.count) o 0 → option_map_or (λ r. nat_le 1 k && nat_le k r.count) o false ≡ true
    at None l = absurd (omega arith)
    at (Some r) l = and_from (nat_le 1 k) (nat_le k r.count) (le-leb 1 k (omega arith)) (le-leb k r.count l)

-- a group of the plan has a circuit
pub count_some : (p : Plan) → IsPlan p → (g : ℕ) → is_group p g ≡ true → 1 ≤ count_of p g
count_some p ok g known = at (slice_get p.groups g) refl known
  where
    at : (o : Option Group) → slice_get p.groups g ≡ o → is_some o ≡ true → 1 ≤ option_map_or (λ r. r.count) o 0
    at None e h = absurd (false≢true h)
    at (Some r) e h = (at_index (IsGroup p) p.groups ok.groups g r e).some

-- A CIRCUIT THAT THE CALL DOES NOT CARRY

pub record IsLoose (p : Plan) (hops : List Hop) (g : ℕ) : Type 0 where
  pub number : ℕ
  pub some : 0 < number
  pub few : number ≤ count_of p g
  pub apart : (h : Hop) → Among h hops → same_circuit h.circuit (record { group = g; number = number }) ≡ false

module _ (p : Plan) (hops : List Hop) (g : ℕ) where
  -- the call has not gone by the group
  pub loose_new : 1 ≤ count_of p g → ((h : Hop) → Among h hops → h.circuit.group ≡ g → ⊥) → IsLoose p hops g
  loose_new many new = record { number = 1; some = omega arith; few = many; apart = λ h m. and_left (h.circuit.group == g) _ (ne_eqb _ _ (new h m)) }

  -- it has gone by one circuit of it, and there is another
  pub loose_other : (y : Circuit) → 2 ≤ count_of p g → ((h : Hop) → Among h hops → h.circuit.group ≡ g → y ≡ h.circuit) → IsLoose p hops g
  loose_other y many only =
      elim (cases_eq y.number 1) [
        | inl e ↦ at 2 (omega arith) (omega arith) (omega arith)
        | inr e ↦ at 1 (omega arith) (omega arith) e
      ]
    where
      at : (k : ℕ) → 0 < k → k ≤ count_of p g → y.number ≢ k → IsLoose p hops g
      at k some few ne = record {
        number = k;
        some = some;
        few = few;
        apart = λ h m. elim (cases_eq h.circuit.group g) [
          | inl e ↦ and_right (h.circuit.group == g) _ (ne_eqb _ _ (λ q. ne (ap (λ (x : Circuit). x.number) (only h m e) ∙ q)))
          | inr e ↦ and_left (h.circuit.group == g) _ (ne_eqb _ _ e)
        ];
      }

module _ (p : Plan) (line : Line) (keyed : List ℕ) (hops : List Hop) (b : Groups) (n x : ℕ) where
  free_from : (y : Circuit) → carries (on_way line keyed hops Standing) y ≡ false → is_free_at p (alone (on_way line keyed hops Standing) b n) x y ≡ true
  free_from y h = let f = none_circuit y in rw (h, f) refl

  -- the exchange sees a circuit of the group as free
  free_of : (g : ℕ) → set.contains b g ≡ false → IsLoose p hops g → (y : Circuit) × (first_free p (alone (on_way line keyed hops Standing) b n) x g ≡ Some y)
  free_of g up l =
      let none : set.contains {R = nat_cmp} set.empty g ≡ false = set.contains-empty nat_cmp g in
      let y = circuit g l.number in
      let f = find_some (is_free_at p (alone (on_way line keyed hops Standing) b n) x) (circuits_at p g x) y (circuit_listed p y g x (numbered p g l.number l.some l.few) refl)
      (free_from y (any_none (λ (h : Hop). same_circuit h.circuit y) hops l.apart)) in
      (f.0, let e = f.1 in rw (none, up) e)

  -- a blocked group has none
  pub none_of : (g : ℕ) → set.contains b g ≡ true → first_free p (alone (on_way line keyed hops Standing) b n) x g ≡ None
  none_of g down = let e : is_down (alone (on_way line keyed hops Standing) b n) g ≡ true = or_right _ _ down in rw e refl

  -- where those listed before a group are blocked and it is not, the call gets a circuit of it
  pub choose : (code g : ℕ) → Among g (route_list p x code) → ((h : ℕ) → Among h (listed_before g (route_list p x code)) → set.contains b h ≡ true) → set.contains b g ≡ false → IsLoose p hops g
      → (y : Circuit) × (choice p (alone (on_way line keyed hops Standing) b n) x code ≡ Some y) × (y.group ≡ g)
  choose code g m down up l =
      let f = free_of g up l in
      (f.0, first_in_at (first_free p (alone (on_way line keyed hops Standing) b n) x) (route_list p x code) g f.0 m (λ h a. none_of h (down h a)) f.1, (chosen p (alone (on_way line keyed hops Standing) b n) x g f.0 f.1).group)
