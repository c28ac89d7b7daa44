-- While few groups are down, none is answered NC but after a second collision.
use Rattle.std.proofs.Common.{◌≡◌, ◌≢◌, ℕ, zero, suc, ◌+◌, ◌<◌, ◌≤◌, Bool, true, false, eqb, eqb-true, List, [], ◌∷◌, length, inl, inr, Option, Some, None, refl, sym, ap, ◌∙◌, subst, eq-eqb, arith}
use Rattle.tx_machine.proofs.Common.{false≢true, both_ways, and_from, or_right, ne_eqb, cases_eq, slice_get_within, option_map_or, IsPlan, IsRoute, EachPair, route_list, Among, Circuit, Event, Reply, Answered, HeadOn, Nc, exchange_of, State, is_down, is_free_at, first_free}
use Rattle.std.proofs.lemmas.Cmp.{nat_eq_equiv}
use Rattle.std.proofs.lemmas.List.Sums.{length-filter}
use Rattle.std.proofs.lemmas.Map.Made.{length-le_from_is_member, is_member-filter}
use Rattle.std.specs.Prelude.{◌&&◌, ◌==◌, ◌||◌, if◌then◌else◌, filter, find, slice_get, is_some, count_by}
use Rattle.std.specs.List.{AllByRecursion, IsDistinct, list_any, range_with_len}
use Rattle.tx_plan.specs.Plan.{Plan, Group, Route}
use Rattle.tx_plan.specs.Circuits.{circuits_at, may_seize, may_seize_row}
use Rattle.tx_plan.proofs.Growing.{seizes_within}
use Rattle.tx_machine.specs.Excused.{IsTaken, FoundNone, IsExcused, IsExcusedTo, routed_call, FewDown, OthersFree, IsNcByCollision}
use Rattle.tx_machine.proofs.Lists.{any_mem, find_mem}
use Rattle.tx_machine.proofs.Uses.{group_at}
use Rattle.tx_machine.proofs.Steps.{all_mem, listed_may}

-- A LIST OF NUMBERS THAT PASS A TEST
all_distinct : (xs : List ℕ) → EachPair (λ x y. x ≢ y) xs → IsDistinct eqb xs
unfolding IsDistinct
all_distinct [] d = tt
all_distinct (x ∷ xs) d = (each x xs d.0, all_distinct xs d.1)
  where
    each : (x : ℕ) (ys : List ℕ) → AllByRecursion (λ y. x ≢ y) ys → AllByRecursion (λ y. eqb x y ≡ false) ys
    each x [] h = tt
    each x (y ∷ ys) h = (ne_eqb x y h.0, each x ys h.1)

range_has : (n a q : ℕ) → a ≤ q → q < a + n → list_any (eqb q) (range_with_len a n) ≡ true
range_has zero a q low high = absurd (omega arith)
range_has (suc n) a q low high = elim (cases_eq q a) [
  | inl e ↦ ap (λ b. b || list_any (eqb q) (range_with_len (a + 1) n)) (eq-eqb q a e)
  | inr ne ↦ or_right (eqb q a) _ (range_has n (a + 1) q (omega arith) (omega arith))
]

-- no two of them equal, each below n: they are no more than the numbers below n that pass
counted : (t : ℕ → Bool) (n : ℕ) (xs : List ℕ) → EachPair (λ x y. x ≢ y) xs → ((x : ℕ) → Among x xs → (x < n) × (t x ≡ true)) → length xs ≤ count_by t (range_with_len 0 n)
counted t n xs once each =
    let few = length-le_from_is_member nat_eq_equiv xs (filter t (range_with_len 0 n)) (all_distinct xs once) (λ q h. passes q (any_mem (eqb q) xs h)) in
    rw length-filter at few
  where
    passes : (q : ℕ) → (x : ℕ) × Among x xs × (eqb q x ≡ true) → list_any (eqb q) (filter t (range_with_len 0 n)) ≡ true
    passes q a =
        let e : q ≡ a.0 = eqb-true q a.0 a.2 in
        let b = each a.0 a.1 in
        is_member-filter nat_eq_equiv t q (λ x h. ap t (eqb-true q x h)) (range_with_len 0 n)
        ∙ and_from _ _ (range_has n 0 q (omega arith) (subst (λ k. k < 0 + n) (sym e) (let l = b.0 in omega arith))) (ap t e ∙ b.1)

-- THE GROUPS OF A LIST
listed_once : (p : Plan) → IsPlan p → (x c : ℕ) → EachPair (λ g h. g ≢ h) (route_list p x c)
listed_once p ok x c = at (find (λ r. (r.exchange == x) && (r.code == c)) p.routes) refl
  where
    at : (o : Option Route) → find (λ r. (r.exchange == x) && (r.code == c)) p.routes ≡ o → EachPair (λ g h. g ≢ h) (option_map_or (λ r. r.groups) o [])
    at None e = tt
    at (Some r) e = (all_mem (IsRoute p) p.routes r ok.routes (find_mem (λ r. (r.exchange == x) && (r.code == c)) p.routes r e).0).differ

-- a group that is taken is down, unless a circuit of it is free
taken_down : (p : Plan) (s : State) (exchange g : ℕ) → IsTaken p s exchange g → (is_down s g ≡ false → is_some (first_free p s exchange g) ≡ true) → is_down s g ≡ true
taken_down p s exchange g (inl down) free = down
taken_down p s exchange g (inr none) free = at (is_down s g) free
  where
    found : (o : Option Circuit) → find (is_free_at p s exchange) (circuits_at p g exchange) ≡ o → is_some o ≡ true → ⊥
    found None e h = false≢true h
    found (Some x) e h =
        let f = find_mem (is_free_at p s exchange) (circuits_at p g exchange) x e in
        let i = group_at p g exchange x f.0 in
        both_ways _ (none x i.1 i.0) f.1

    at : (b : Bool) → (b ≡ false → is_some (if b then None else find (is_free_at p s exchange) (circuits_at p g exchange)) ≡ true) → b ≡ true
    at true h = refl
    at false h = absurd (found _ refl (h refl))

module _ (p : Plan) (ok : IsPlan p) (spare : ℕ) (s : State) (e : Event) (few : FewDown p s spare) (free : OthersFree p s e) where
  some_free : (n : ℕ) → routed_call e ≡ Some n → FoundNone p s spare n → ⊥
  some_free n q f =
      let exchange = exchange_of p f.call in
      let list = route_list p exchange f.code in
      let down = counted (is_down s) (length p.groups) list (listed_once p ok exchange f.code) (λ g m.
      let may = listed_may p ok exchange f.code g m in
      (seizes_within p g exchange may, taken_down p s exchange g (all_mem (IsTaken p s exchange) list g f.taken.each m) (free n f.call q f.open' g may))) in
      let many = f.taken.many in
      let up = few in
      omega arith

  none_answered : (o : Option ℕ) → routed_call e ≡ o → IsExcusedTo p spare s o Nc → ⊥
  none_answered None q x = x
  none_answered (Some n) q x = some_free n q x

  pub by_collision : (r : Reply) → IsExcused p spare s e r → IsNcByCollision s r
  by_collision (Answered Nc) x = none_answered (routed_call e) refl x
  by_collision (HeadOn a b a_stands b_stands) x = x
  by_collision other x = tt
