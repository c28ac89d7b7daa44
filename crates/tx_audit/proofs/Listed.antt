-- Route lists, and the groups before one in them.
use Rattle.tx_audit.proofs.Common.{◌≡◌, ℕ, ◌≤◌, ◌==◌, true, false, ◌&&◌, ◌||◌, List, [], ◌∷◌, inl, inr, length, Option, Some, None, refl, sym, ◌∙◌, subst, eqb-true, arith, if◌then◌else◌, find, is_some, slice_get, option_and_then, AllByRecursion, option_map_or, route_list, Among, AllDiffer, is_group, find_mem, listed_before}
use Rattle.std.proofs.lemmas.Bool.{eqb-false, false≢true, or_cases, and_parts}
use Rattle.tx_plan.specs.Plan.{Plan, Group, Route}
use Rattle.tx_plan.specs.Rules.{IsPlan, IsRoute}
use Rattle.tx_plan.specs.Circuits.{far_end, other_end, may_seize, is_both, direction_of}
use Rattle.tx_plan.specs.declared.ids.Direction.TheVariants.{OneWay}
use Rattle.tx_plan.proofs.Among.{among_all, all_among}
use Rattle.tx_rank.proofs.Ways.{once_first, once_cons}
use Rattle.tx_machine.proofs.Steps.{all_mem, row_of, listed_leads}

-- what holds of the groups of each route and of no groups holds of each list
of_list : (p : Plan) → IsPlan p → (P : List ℕ → Type 0) → P [] → ((r : Route) → IsRoute p r → P r.groups) → (x c : ℕ) → P (route_list p x c)
of_list p ok P none each x c = at (find (λ r. (r.exchange == x) && (r.code == c)) p.routes) refl
  where
    at : (o : Option Route) → find (λ r. (r.exchange == x) && (r.code == c)) p.routes ≡ o → P (option_map_or (λ r. r.groups) o [])
    at None e = none
    at (Some r) e = each r (all_mem (IsRoute p) p.routes r ok.routes (find_mem (λ r. (r.exchange == x) && (r.code == c)) p.routes r e).0)

-- a group with an end is one of the plan
pub known_from : (p : Plan) (g x y : ℕ) → other_end p g x ≡ Some y → is_group p g ≡ true
known_from p g x y e = at (slice_get p.groups g) e
  where
    at : (o : Option Group) → option_and_then (λ r. far_end r x) o ≡ Some y → is_some o ≡ true
    at None h = let bad : ⊥ = cc in absurd bad
    at (Some r) h = refl

module _ (p : Plan) (ok : IsPlan p) where
  pub listed_once : (x c : ℕ) → AllDiffer (route_list p x c)
  listed_once x c = of_list p ok AllDiffer tt (λ r h. h.differ) x c

  pub listed_few : (x c : ℕ) → length (route_list p x c) ≤ 16
  listed_few x c = of_list p ok (λ gs. length gs ≤ 16) (omega arith) (λ r h. h.few) x c

  pub listed_known : (x c : ℕ) → AllByRecursion (λ g. is_group p g ≡ true) (route_list p x c)
  listed_known x c = among_all (λ g. is_group p g ≡ true) (route_list p x c) (λ g m. let l = listed_leads p ok x c g m in known_from p g x l.0 l.1)

  pub listed_may : (x c g : ℕ) → Among g (route_list p x c) → may_seize p g x ≡ true
  listed_may x c g m =
      let r = row_of p.routes x c g m in
      subst (λ k. may_seize p g k ≡ true) r.2 (all_mem (λ k. may_seize p k r.0.exchange ≡ true) r.0.groups g (all_mem (IsRoute p) p.routes r.0 ok.routes r.1).outgoing r.3)

-- a group that may be seized from two exchanges is a both-way one
pub both_ways_from : (p : Plan) (g x y : ℕ) → may_seize p g x ≡ true → may_seize p g y ≡ true → (x ≡ y → ⊥) → is_both (direction_of p g) ≡ true
both_ways_from p g x y hx hy ne = at (slice_get p.groups g) hx hy
  where
    at : (o : Option Group) → option_map_or (λ r. (r.a == x) || (is_both r.direction && (r.b == x))) o false ≡ true → option_map_or (λ r. (r.a == y) || (is_both r.direction && (r.b == y))) o false ≡ true → is_both (option_map_or (λ r. r.direction) o OneWay) ≡ true
    at None h k = absurd (false≢true h)
    at (Some r) h k =
        elim (or_cases (r.a == x) _ h) [
          | inr b ↦ (and_parts (is_both r.direction) (r.b == x) b).0
          | inl e ↦ elim (or_cases (r.a == y) _ k) [
            | inr b ↦ (and_parts (is_both r.direction) (r.b == y) b).0
            | inl f ↦ absurd (ne (sym (eqb-true r.a x e) ∙ eqb-true r.a y f))
          ]
        ]

-- THE GROUPS BEFORE ONE

before_among : (g h : ℕ) (gs : List ℕ) → Among h (listed_before g gs) → Among h gs
before_among g h [] m = m
before_among g h (k ∷ gs) m =
    elim (k == g) as (λ b. Among h (if b then [] else k ∷ listed_before g gs) → Among h (k ∷ gs)) [
      | true ↦ λ n. absurd n
      | false ↦ λ n. elim n [ inl e ↦ inl e | inr l ↦ inr (before_among g h gs l) ]
    ] m

pub not_before : (g : ℕ) (gs : List ℕ) → Among g (listed_before g gs) → ⊥
not_before g [] m = m
not_before g (k ∷ gs) m =
    elim (k == g) as (λ b. (k == g) ≡ b → Among g (if b then [] else k ∷ listed_before g gs) → ⊥) [
      | true ↦ λ e n. n
      | false ↦ λ e n. elim n [ inl q ↦ eqb-false k g e q | inr l ↦ not_before g gs l ]
    ] refl m

pub before_once : (g : ℕ) (gs : List ℕ) → AllDiffer gs → AllDiffer (listed_before g gs)
before_once g [] once = tt
before_once g (k ∷ gs) once =
    elim (k == g) as (λ b. AllDiffer (if b then [] else k ∷ listed_before g gs)) [
      | true ↦ tt
      | false ↦ once_cons k (listed_before g gs) (λ m. once_first k gs once (before_among g k gs m)) (before_once g gs once.1)
    ]

pub before_few : (g : ℕ) (gs : List ℕ) → length (listed_before g gs) ≤ length gs
before_few g [] = omega arith
before_few g (k ∷ gs) =
    elim (k == g) as (λ b. length (if b then [] else k ∷ listed_before g gs) ≤ length (k ∷ gs)) [
      | true ↦ omega arith
      | false ↦ let r = before_few g gs in omega arith
    ]

pub before_all : (P : ℕ → Type 0) (g : ℕ) (gs : List ℕ) → AllByRecursion P gs → AllByRecursion P (listed_before g gs)
before_all P g gs h = among_all P (listed_before g gs) (λ k m. all_among P gs k h (before_among g k gs m))
