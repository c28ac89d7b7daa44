-- Circuits and lines: their orders are total and exact, and what their sets contain.
use Rattle.tx_plan.proofs.Common.{◌≡◌, ℕ, Bool, true, not, ◌||◌, ◌==◌, ◌⊎◌, List, [], ◌∷◌, ◌++◌, refl, slice_cmp, nat_list_cmp_total, list_any, ap, sym, ◌∙◌, inl, inr, eqb-true, eq-eqb, Equal, same_from_decides, Line}
use Rattle.std.specs.Ordering.{nat_cmp, eq_by_cmp, is_eq}
use Rattle.std.specs.Cmp.{IsTotalOrder, nat_cmp_total, Equal-is}
use Rattle.std.specs.FinSet.{FinSet, contains, insert, remove, retain, union, from_list, contains-insert, contains-remove, contains-retain, contains-union, contains-from_list, from_list_push}
use Rattle.std.proofs.lemmas.Bool.{and_parts, and_from, or_cases}
use Rattle.std.proofs.lemmas.Map.Lookups.{exact_pairs, exact_unsigned, exact_bytes}
use Rattle.std.proofs.lemmas.Cmp.{on_total, then_total, tied_itself}
use Rattle.tx_plan.specs.declared.ids.Circuit.{Circuit}
use Rattle.tx_plan.specs.Orders.{same_circuit, same_line, circuit_cmp, line_cmp}
pub use Rattle.tx_plan.specs.inner.LineLaws.{same_line-is, same_line-itself, same_line_equiv}

pub circuits_total : IsTotalOrder circuit_cmp
circuits_total = then_total (on_total (λ (x : Circuit). x.group) nat_cmp_total) (on_total (λ (x : Circuit). x.number) nat_cmp_total)

pub lines_total : IsTotalOrder line_cmp
lines_total = then_total (on_total (λ (l : Line). l.code) nat_cmp_total) (on_total (λ (l : Line). l.national) nat_list_cmp_total)

pub exact_circuits : (x y : Circuit) → circuit_cmp x y ≡ Equal → x ≡ y
exact_circuits x y h = ap (λ (p : ℕ × ℕ). record { group = p.0; number = p.1 }) (exact_pairs nat_cmp nat_cmp exact_unsigned exact_unsigned (x.group, x.number) (y.group, y.number) h)

pub same_circuit-is : (x y : Circuit) → same_circuit x y ≡ true → x ≡ y
same_circuit-is x y h = let r = and_parts (x.group == y.group) (x.number == y.number) h in λ i. record { group = eqb-true x.group y.group r.0 i; number = eqb-true x.number y.number r.1 i }

pub same_circuit-itself : (x : Circuit) → same_circuit x x ≡ true
same_circuit-itself x = and_from (x.group == x.group) (x.number == x.number) (eq-eqb x.group x.group refl) (eq-eqb x.number x.number refl)

-- what the sets of circuits contain, one way
pub in_insert : (s : FinSet circuit_cmp) (x y : Circuit) → contains (insert s x) y ≡ true → (y ≡ x) ⊎ (contains s y ≡ true)
in_insert s x y h =
    elim (or_cases (eq_by_cmp circuit_cmp y x) (contains s y) (sym (contains-insert circuits_total s x y) ∙ h)) [
      | inl e ↦ inl (exact_circuits y x ((Equal-is (circuit_cmp y x)).0 e))
      | inr o ↦ inr o
    ]

pub in_remove : (s : FinSet circuit_cmp) (x y : Circuit) → contains (remove s x) y ≡ true → contains s y ≡ true
in_remove s x y h = (and_parts (not (eq_by_cmp circuit_cmp y x)) (contains s y) (sym (contains-remove circuits_total s x y) ∙ h)).1

pub in_retain : (s : FinSet circuit_cmp) (keeps : Circuit → Bool) (y : Circuit) → contains (retain s keeps) y ≡ true → contains s y ≡ true
in_retain s keeps y h = (and_parts (contains s y) (keeps y) (sym (contains-retain s keeps y (λ x e. ap keeps (sym (exact_circuits y x e)))) ∙ h)).0

pub in_union : (s : FinSet circuit_cmp) (xs : List Circuit) (y : Circuit) → contains (union s (from_list xs)) y ≡ true → (contains s y ≡ true) ⊎ (list_any (eq_by_cmp circuit_cmp y) xs ≡ true)
in_union s xs y h =
    or_cases (contains s y) _ (ap (λ b. contains s y || b) (sym (contains-from_list circuits_total xs y)) ∙ sym (contains-union circuits_total s (from_list xs) y) ∙ h)

pub by_cmp-is : (x y : Circuit) → eq_by_cmp circuit_cmp x y ≡ true → x ≡ y
by_cmp-is x y e = exact_circuits x y ((Equal-is (circuit_cmp x y)).0 e)

-- two circuits tie in the order of the sets where they are one
pub circuit_tie : (x y : Circuit) → eq_by_cmp circuit_cmp y x ≡ same_circuit x y
circuit_tie x y = same_from_decides (eq_by_cmp circuit_cmp y x) (same_circuit x y)
    (λ e. sym (by_cmp-is y x e), λ e. ap (λ z. eq_by_cmp circuit_cmp y z) e ∙ ap is_eq (tied_itself circuits_total y))
    (same_circuit-is x y, λ e. ap (λ z. same_circuit z y) e ∙ same_circuit-itself y)

pub exact_lines : (l m : Line) → line_cmp l m ≡ Equal → l ≡ m
exact_lines l m h = ap (λ (p : ℕ × List ℕ). record { code = p.0; national = p.1 }) (exact_pairs nat_cmp (slice_cmp nat_cmp) exact_unsigned exact_bytes (l.code, l.national) (m.code, m.national) h)

-- two lines tie in the order of the sets where they are one
pub line_tie : (l m : Line) → eq_by_cmp line_cmp l m ≡ same_line m l
line_tie l m = same_from_decides (eq_by_cmp line_cmp l m) (same_line m l)
    (λ e. sym (exact_lines l m ((Equal-is (line_cmp l m)).0 e)), λ e. ap (λ z. eq_by_cmp line_cmp l z) e ∙ ap is_eq (tied_itself lines_total l))
    (same_line-is m l, λ e. ap (λ z. same_line z l) e ∙ same_line-itself l)

-- one more at the end of a list is one more in its set
pub line_put : (ls : List Line) (l : Line) → from_list {R = line_cmp} (ls ++ l ∷ []) ≡ insert (from_list ls) l
line_put ls l = from_list_push lines_total exact_lines ls l

-- a test of the members of a set that a list makes
pub in_lines : (ls : List Line) (l : Line) → contains (from_list {R = line_cmp} ls) l ≡ list_any (λ m. same_line m l) ls
in_lines ls l = contains-from_list lines_total ls l ∙ agree ls
  where
    agree : (ls : List Line) → list_any (eq_by_cmp line_cmp l) ls ≡ list_any (λ m. same_line m l) ls
    agree [] = refl
    agree (m ∷ ls) = λ i. line_tie l m i || agree ls i
