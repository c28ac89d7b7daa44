-- Sets that bits mean.
use Rattle.std.proofs.Common.{◌≡◌, ℕ, zero, suc, ◌+◌, ◌-◌, ◌*◌, ◌/◌, ◌%◌, ◌<◌, ◌≤◌, ◌==◌, Bool, true, false, not, ◌&&◌, ◌||◌, List, [], ◌∷◌, map, length, refl, sym, ap, ◌∙◌, eqb-true, eq-eqb, arith, get_or}
use Rattle.std.specs.Prelude.{if◌then◌else◌, nat_le, slice_set, replicate}
use Rattle.tx_machine.proofs.Common.{list_any, eqb-false, ne_eqb, and_parts, and_from, false_from_ne_true, circuit_cmp, circuits_total, exact_circuits, by_cmp-is, Circuit, at_least}
use Rattle.std.specs.Ordering.{nat_cmp, eq_by_cmp, is_eq}
use Rattle.std.specs.Cmp.{nat_cmp_total, Equal-is}
use Rattle.std.specs.FinSet as set
use Rattle.std.proofs.lemmas.Bool.Decides.{same_from_decides}
use Rattle.std.proofs.lemmas.Map.Lookups.{exact_unsigned}
use Rattle.std.proofs.lemmas.Cmp.{tied_itself}
use Rattle.tx_plan.proofs.Tables.{list_any-map}
use Rattle.std.proofs.lemmas.List.{get_or-set_other}
use Rattle.std.proofs.lemmas.Grind.{get_or-set_at}
use Rattle.tx_machine.specs.inner.Marks.{indexes, circuit_at, index_of, circuits_of, groups_of, HasMark, IsCleared}

-- no index before the first
none_before : (bits : List Bool) (k j : ℕ) → j < k → list_any (λ i. j == i) (indexes k bits) ≡ false
none_before [] k j h = refl
none_before (true ∷ bits) k j h = let ne : (j == k) ≡ false = ne_eqb j k (λ e. let b : ⊥ = omega arith in b) in ap (λ b. b || list_any (λ i. j == i) (indexes (k + 1) bits)) ne ∙ none_before bits (k + 1) j (omega arith)
none_before (false ∷ bits) k j h = none_before bits (k + 1) j (omega arith)

-- the bit at an index
pub placed : (bits : List Bool) (k i j : ℕ) → j ≡ k + i → list_any (λ n. j == n) (indexes k bits) ≡ get_or bits i false
placed [] k i j e = refl
placed (true ∷ bits) k zero j e = ap (λ b. b || list_any (λ n. j == n) (indexes (k + 1) bits)) (eq-eqb j k (omega arith))
placed (false ∷ bits) k zero j e = none_before bits (k + 1) j (omega arith)
placed (true ∷ bits) k (suc i) j e = let ne : (j == k) ≡ false = ne_eqb j k (λ q. let b : ⊥ = omega arith in b) in ap (λ b. b || list_any (λ n. j == n) (indexes (k + 1) bits)) ne ∙ placed bits (k + 1) i j (omega arith)
placed (false ∷ bits) k (suc i) j e = placed bits (k + 1) i j (omega arith)

any_same : {A : Type 0} (t u : A → Bool) → ((x : A) → t x ≡ u x) → (xs : List A) → list_any t xs ≡ list_any u xs
any_same t u same [] = refl
any_same t u same (x ∷ xs) = λ i. same x i || any_same t u same xs i

any_no : {A : Type 0} (t : A → Bool) → ((x : A) → t x ≡ false) → (xs : List A) → list_any t xs ≡ false
any_no t no' [] = refl
any_no t no' (x ∷ xs) = ap (λ b. b || list_any t xs) (no' x) ∙ any_no t no' xs

-- GROUPS
same_nat : (q k : ℕ) → eq_by_cmp nat_cmp q k ≡ (q == k)
same_nat q k = same_from_decides (eq_by_cmp nat_cmp q k) (q == k)
    (λ e. exact_unsigned q k ((Equal-is (nat_cmp q k)).0 e), λ e. ap (λ z. eq_by_cmp nat_cmp q z) (sym e) ∙ ap is_eq (tied_itself nat_cmp_total q))
    (eqb-true q k, eq-eqb q k)

pub in_groups : (bits : List Bool) (g : ℕ) → set.contains (groups_of bits) g ≡ get_or bits g false
in_groups bits g = set.contains-from_list nat_cmp_total (indexes 0 bits) g ∙ any_same _ _ (same_nat g) (indexes 0 bits) ∙ placed bits 0 g g (omega arith)

pub length_put : (bits : List Bool) (i : ℕ) (b : Bool) → length (slice_set bits i b) ≡ length bits
length_put [] i b = refl
length_put (c ∷ bits) zero b = refl
length_put (c ∷ bits) (suc i) b = ap suc (length_put bits i b)

-- two lists of bits that agree but at one index
one_index : (bits : List Bool) (i j : ℕ) (b : Bool) → i < length bits → get_or (slice_set bits i b) j false ≡ (if j == i then b else get_or bits j false)
one_index bits i j b h =
    elim (j == i) as (λ t. (j == i) ≡ t → get_or (slice_set bits i b) j false ≡ (if t then b else get_or bits j false)) [
      | true ↦ λ t. get_or-set_at bits i j b false (eqb-true j i t) h
      | false ↦ λ t. get_or-set_other bits i j b false (eqb-false j i t)
    ] refl

put_true : (t c : Bool) → (if t then true else c) ≡ (t || c)
put_true true c = refl
put_true false c = refl

put_false : (t c : Bool) → (if t then false else c) ≡ (not t && c)
put_false true c = refl
put_false false c = refl

pub group_put : (bits : List Bool) (g : ℕ) → g < length bits → groups_of (slice_set bits g true) ≡ set.insert (groups_of bits) g
group_put bits g h =
    set.same_set nat_cmp_total exact_unsigned _ _ (λ q.
    in_groups (slice_set bits g true) q ∙ one_index bits g q true h ∙ put_true (q == g) (get_or bits q false)
    ∙ sym (set.contains-insert nat_cmp_total (groups_of bits) g q ∙ (λ i. same_nat q g i || in_groups bits q i)))

pub group_taken : (bits : List Bool) (g : ℕ) → g < length bits → groups_of (slice_set bits g false) ≡ set.remove (groups_of bits) g
group_taken bits g h =
    set.same_set nat_cmp_total exact_unsigned _ _ (λ q.
    in_groups (slice_set bits g false) q ∙ one_index bits g q false h ∙ put_false (q == g) (get_or bits q false)
    ∙ sym (set.contains-remove nat_cmp_total (groups_of bits) g q ∙ (λ i. not (same_nat q g i) && in_groups bits q i)))

none_set : (n k : ℕ) → indexes k (replicate n false) ≡ []
none_set zero k = refl
none_set (suc n) k = none_set n (k + 1)

pub no_groups : (n : ℕ) → groups_of (replicate n false) ≡ set.empty
no_groups n = ap (λ ks. set.from_list {R = nat_cmp} ks) (none_set n 0)

pub no_circuits : (n : ℕ) → circuits_of (replicate n false) ≡ set.empty
no_circuits n = ap (λ ks. set.from_list {R = circuit_cmp} (map circuit_at ks)) (none_set n 0)

past_end : (bits : List Bool) (i : ℕ) → length bits ≤ i → get_or bits i false ≡ false
past_end [] i h = refl
past_end (b ∷ bits) zero h = let bad : ⊥ = omega arith in absurd bad
past_end (b ∷ bits) (suc i) h = past_end bits i (omega arith)

-- CIRCUITS
abbrev pub well : Circuit → Bool
well x = nat_le 1 x.number && nat_le x.number 240

well-is : (x : Circuit) → well x ≡ true → (1 ≤ x.number) × (x.number ≤ 240)
well-is x h = let r = and_parts (nat_le 1 x.number) (nat_le x.number 240) h in (at_least 1 x.number r.0, at_least x.number 240 r.1)

index_back : (k : ℕ) → index_of (circuit_at k) ≡ k
index_back k = omega arith

circuit_back : (x : Circuit) → well x ≡ true → circuit_at (index_of x) ≡ x
circuit_back x h =
    let w = well-is x h in
    let g : (240 * x.group + (x.number - 1)) / 240 ≡ x.group = omega arith in
    let n : (240 * x.group + (x.number - 1)) % 240 + 1 ≡ x.number = omega arith in
    λ i. record { group = g i; number = n i }

-- a circuit at an index
at_index : (y : Circuit) → well y ≡ true → (k : ℕ) → eq_by_cmp circuit_cmp y (circuit_at k) ≡ (index_of y == k)
at_index y h k = same_from_decides (eq_by_cmp circuit_cmp y (circuit_at k)) (index_of y == k)
    (λ e. by_cmp-is y (circuit_at k) e, λ e. ap (λ z. eq_by_cmp circuit_cmp y z) (sym e) ∙ ap is_eq (tied_itself circuits_total y))
    (λ e. sym (circuit_back y h) ∙ ap circuit_at (eqb-true (index_of y) k e), λ e. eq-eqb (index_of y) k (ap index_of e ∙ index_back k))

well_at : (k : ℕ) → well (circuit_at k) ≡ true
well_at k = and_from (nat_le 1 (k % 240 + 1)) (nat_le (k % 240 + 1) 240) (grind arith) (grind arith)

pub in_circuits : (bits : List Bool) (y : Circuit) → set.contains (circuits_of bits) y ≡ (well y && get_or bits (index_of y) false)
in_circuits bits y =
    set.contains-from_list circuits_total (map circuit_at (indexes 0 bits)) y ∙ list_any-map (eq_by_cmp circuit_cmp y) circuit_at (indexes 0 bits)
    ∙ elim (well y) as (λ w. well y ≡ w → list_any (λ k. eq_by_cmp circuit_cmp y (circuit_at k)) (indexes 0 bits) ≡ (w && get_or bits (index_of y) false)) [
      | true ↦ λ w. any_same _ _ (at_index y w) (indexes 0 bits) ∙ placed bits 0 (index_of y) (index_of y) (omega arith)
      | false ↦ λ w. any_no _ (λ k. false_from_ne_true _ (λ e. let b : ⊥ = (let f = ap well (by_cmp-is y (circuit_at k) e) in let g = well_at k in cc) in b)) (indexes 0 bits)
    ] refl

same_index : (x y : Circuit) → well x ≡ true → well y ≡ true → (index_of y == index_of x) ≡ eq_by_cmp circuit_cmp y x
same_index x y wx wy = sym (at_index y wy (index_of x)) ∙ ap (eq_by_cmp circuit_cmp y) (circuit_back x wx)

pub well_marked : (groups : ℕ) (x : Circuit) → HasMark groups x → well x ≡ true
well_marked groups x h = and_from (nat_le 1 x.number) (nat_le x.number 240) (let a = h.first in grind arith) (let b = h.last in grind arith)

pub well_within : (x : Circuit) → 1 ≤ x.number → x.number ≤ 240 → well x ≡ true
well_within x a b = and_from (nat_le 1 x.number) (nat_le x.number 240) (grind arith) (grind arith)

pub not_well : (x : Circuit) → ((1 ≤ x.number) → (x.number ≤ 240) → ⊥) → well x ≡ false
not_well x n = false_from_ne_true (well x) (λ e. let w = well-is x e in n w.0 w.1)

pub index_within : (groups n : ℕ) (x : Circuit) → n ≡ 240 * groups → HasMark groups x → index_of x < n
index_within groups n x e h = let a = h.group in let b = h.first in let c = h.last in omega arith

-- a circuit of no group that has marks
pub not_grouped : (groups : ℕ) (bits : List Bool) (x : Circuit) → length bits ≡ 240 * groups → groups ≤ x.group → (well x && get_or bits (index_of x) false) ≡ false
not_grouped groups bits x long past =
    elim (well x) as (λ w. (w && get_or bits (index_of x) false) ≡ false) [ true ↦ past_end bits (index_of x) (omega arith) | false ↦ refl ]

not_alike : (x y : Circuit) → well x ≡ true → well y ≡ false → eq_by_cmp circuit_cmp y x ≡ false
not_alike x y wx wy = false_from_ne_true _ (λ e. let f = ap well (by_cmp-is y x e) in let b : ⊥ = cc in b)

module _ (groups : ℕ) (bits : List Bool) (x : Circuit) (long : length bits ≡ 240 * groups) (h : HasMark groups x) where
  wx : well x ≡ true
  wx = well_marked groups x h

  within : index_of x < length bits
  within = index_within groups (length bits) x long h

  pub circuit_put : circuits_of (slice_set bits (index_of x) true) ≡ set.insert (circuits_of bits) x
  circuit_put =
      set.same_set circuits_total exact_circuits _ _ (λ y.
      in_circuits (slice_set bits (index_of x) true) y
      ∙ elim (well y) as (λ w. well y ≡ w → (w && get_or (slice_set bits (index_of x) true) (index_of y) false) ≡ (eq_by_cmp circuit_cmp y x || (w && get_or bits (index_of y) false))) [
        | true ↦ λ w. one_index bits (index_of x) (index_of y) true within ∙ put_true (index_of y == index_of x) _ ∙ ap (λ b. b || get_or bits (index_of y) false) (same_index x y wx w)
        | false ↦ λ w. sym (ap (λ b. b || false) (not_alike x y wx w))
      ] refl
      ∙ sym (set.contains-insert circuits_total (circuits_of bits) x y ∙ ap (λ b. eq_by_cmp circuit_cmp y x || b) (in_circuits bits y)))

  pub circuit_taken : circuits_of (slice_set bits (index_of x) false) ≡ set.remove (circuits_of bits) x
  circuit_taken =
      set.same_set circuits_total exact_circuits _ _ (λ y.
      in_circuits (slice_set bits (index_of x) false) y
      ∙ elim (well y) as (λ w. well y ≡ w → (w && get_or (slice_set bits (index_of x) false) (index_of y) false) ≡ (not (eq_by_cmp circuit_cmp y x) && (w && get_or bits (index_of y) false))) [
        | true ↦ λ w. one_index bits (index_of x) (index_of y) false within ∙ put_false (index_of y == index_of x) _ ∙ ap (λ b. not b && get_or bits (index_of y) false) (same_index x y wx w)
        | false ↦ λ w. sym (ap (λ b. not b && false) (not_alike x y wx w))
      ] refl
      ∙ sym (set.contains-remove circuits_total (circuits_of bits) x y ∙ ap (λ b. not (eq_by_cmp circuit_cmp y x) && b) (in_circuits bits y)))

pub group_cleared : (g : ℕ) (old new : List Bool) → IsCleared g 240 old new → circuits_of new ≡ set.retain (circuits_of old) (λ x. not (x.group == g))
group_cleared g old new c =
    set.same_set circuits_total exact_circuits _ _ (λ y.
    in_circuits new y
    ∙ elim (well y) as (λ w. well y ≡ w → (w && get_or new (index_of y) false) ≡ ((w && get_or old (index_of y) false) && not (y.group == g))) [
      | true ↦ λ w. c.bits (index_of y) ∙ ap (λ t. if t then false else get_or old (index_of y) false) (in_group y w) ∙ last (y.group == g) (get_or old (index_of y) false)
      | false ↦ λ w. refl
    ] refl
    ∙ sym (set.contains-retain (circuits_of old) (λ x. not (x.group == g)) y (λ x e. ap (λ (z : Circuit). not (z.group == g)) (sym (exact_circuits y x e))) ∙ ap (λ b. b && not (y.group == g)) (in_circuits old y)))
  where
    last : (t b : Bool) → (if t then false else b) ≡ (b && not t)
    last true true = refl
    last true false = refl
    last false true = refl
    last false false = refl

    in_group : (y : Circuit) → well y ≡ true → (nat_le (240 * g) (index_of y) && nat_le (index_of y + 1) (240 * g + 240)) ≡ (y.group == g)
    in_group y w = let r = well-is y w in grind arith
