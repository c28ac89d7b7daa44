-- Circuits that calls give up.
use Rattle.tx_machine.proofs.Common.{append_assoc, ◌≡◌, ℕ, zero, suc, ◌+◌, ◌<◌, Bool, true, false, ◌||◌, cond, List, [], ◌∷◌, ◌++◌, take, length, get_or, refl, ap, sym, ◌∙◌, arith, filter, if◌then◌else◌, Call, circuits_used, list_any, flat_map, eq_by_cmp, list_any-append, circuit_cmp, circuits_total, exact_circuits, Circuit, Circuits, with_more}
use Rattle.std.proofs.Math.Bool.{or_assoc}
use Rattle.std.specs.FinSet as set
use Rattle.std.proofs.Math.Bool.{or-false, or_comm}
use Rattle.std.proofs.lemmas.List.Elements.{filter-append}

in_more : (s : set.FinSet circuit_cmp) (xs : List Circuit) (y : Circuit) → set.contains (set.union s (set.from_list xs)) y ≡ (set.contains s y || list_any (eq_by_cmp circuit_cmp y) xs)
in_more s xs y = set.contains-union circuits_total s (set.from_list xs) y ∙ ap (λ b. set.contains s y || b) (set.contains-from_list circuits_total xs y)

pub more_none : (v : Circuits) → with_more v [] ≡ v
more_none v = λ i. record { marked = set.same_set circuits_total exact_circuits (set.union v.marked (set.from_list [])) v.marked (λ y. in_more v.marked [] y ∙ or-false (set.contains v.marked y)) i; groups = v.groups }

pub more_one : (v : Circuits) (x : Circuit) → with_more v (x ∷ []) ≡ record { marked = set.insert v.marked x; groups = v.groups }
more_one v x = λ i. record {
  marked = set.same_set circuits_total exact_circuits (set.union v.marked (set.from_list (x ∷ []))) (set.insert v.marked x) (λ y.
      in_more v.marked (x ∷ []) y ∙ ap (λ b. set.contains v.marked y || b) (or-false (eq_by_cmp circuit_cmp y x)) ∙ or_comm (set.contains v.marked y) (eq_by_cmp circuit_cmp y x) ∙ sym (set.contains-insert circuits_total v.marked x y)) i;
  groups = v.groups;
}

pub more_twice : (v : Circuits) (xs ys : List Circuit) → with_more (with_more v xs) ys ≡ with_more v (xs ++ ys)
more_twice v xs ys = λ i. record {
  marked = set.same_set circuits_total exact_circuits (set.union (set.union v.marked (set.from_list xs)) (set.from_list ys)) (set.union v.marked (set.from_list (xs ++ ys))) (λ y.
      in_more (set.union v.marked (set.from_list xs)) ys y ∙ ap (λ b. b || list_any (eq_by_cmp circuit_cmp y) ys) (in_more v.marked xs y)
      ∙ or_assoc (set.contains v.marked y) (list_any (eq_by_cmp circuit_cmp y) xs) (list_any (eq_by_cmp circuit_cmp y) ys)
      ∙ ap (λ b. set.contains v.marked y || b) (sym (list_any-append (eq_by_cmp circuit_cmp y) xs ys)) ∙ sym (in_more v.marked (xs ++ ys) y)) i;
  groups = v.groups;
}

-- the circuits so far, and one list more
pub more_given : (t : Circuit → Bool) (v now new : Circuits) (xs ys : List Circuit) → now ≡ with_more v (filter t xs) → new ≡ with_more now (filter t ys) → new ≡ with_more v (filter t (xs ++ ys))
more_given t v now new xs ys a b = b ∙ ap (λ w. with_more w (filter t ys)) a ∙ more_twice v (filter t xs) (filter t ys) ∙ ap (with_more v) (sym (filter-append t xs ys))

pub take_more : {A : Type 0} (xs : List A) (i : ℕ) (x : A) → i < length xs → x ≡ get_or xs i x → take (i + 1) xs ≡ take i xs ++ x ∷ []
take_more xs i x h e = ap (λ n. take n xs) (let q : i + 1 ≡ suc i = omega arith in q) ∙ more xs i x h e
  where
    more : {A : Type 0} (xs : List A) (i : ℕ) (x : A) → i < length xs → x ≡ get_or xs i x → take (suc i) xs ≡ take i xs ++ x ∷ []
    more [] i x h e = absurd (omega arith)
    more (y ∷ ys) zero x h e = ap (λ z. z ∷ []) (sym e)
    more (y ∷ ys) (suc i) x h e = ap (λ l. y ∷ l) (more ys i x (omega arith) e)

pub used_more : (ends : Call → Bool) (cs : List Call) (c : Call) → flat_map circuits_used (filter ends (cs ++ c ∷ [])) ≡ flat_map circuits_used (filter ends cs) ++ (if ends c then circuits_used c else [])
used_more ends [] c = elim (ends c) as (λ b. flat_map circuits_used (cond b (c ∷ []) []) ≡ (if b then circuits_used c else [])) [ true ↦ right_nil (circuits_used c) | false ↦ refl ]
  where
    right_nil : (xs : List Circuit) → xs ++ [] ≡ xs
    right_nil [] = refl
    right_nil (x ∷ xs) = ap (λ l. x ∷ l) (right_nil xs)
used_more ends (d ∷ cs) c =
    elim (ends d) as (λ b. flat_map circuits_used (cond b (d ∷ filter ends (cs ++ c ∷ [])) (filter ends (cs ++ c ∷ []))) ≡ flat_map circuits_used (cond b (d ∷ filter ends cs) (filter ends cs)) ++ (if ends c then circuits_used c else [])) [
      | true ↦ ap (λ l. circuits_used d ++ l) (used_more ends cs c) ∙ sym (append_assoc (circuits_used d) (flat_map circuits_used (filter ends cs)) (if ends c then circuits_used c else []))
      | false ↦ used_more ends cs c
    ]
