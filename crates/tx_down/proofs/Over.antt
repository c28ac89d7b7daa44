-- The groups of a list that are left in the network without some, as they are known there.
use Rattle.std.proofs.Common.{◌≡◌, ◌≢◌, ℕ, suc, ◌<◌, ◌≤◌, Bool, true, false, not, List, [], ◌∷◌, length, Option, Some, None, refl, sym, ap, ◌∙◌, subst, arith, unwrap_or, is_some}
use Rattle.tx_join.proofs.Common.{same_Some, list_any, AllByRecursion, bytes_eq, bytes_eq-Decides, filter, find, position, slice_get, option_map_or, Plan, Group, EachPair, IsPlan, group_name, group_named, all_pass, all_at, group_back, may_seize, slice_get_within}
use Rattle.tx_down.proofs.Common.{filter_map, cons_option, is_one_of, network_without, list_over}
use Rattle.tx_plan.specs.Circuits.{may_seize_row}
use Rattle.tx_plan.proofs.Filtered.{find_in}
use Rattle.tx_plan.proofs.Lists.{found_any}
use Rattle.tx_join.proofs.Found.{entry_found}
use Rattle.tx_join.proofs.Taking.{seized}

same_word : (w z : List ℕ) → bytes_eq w z ≡ true → w ≡ z
same_word w z h = (bytes_eq-Decides w z).0 h

module _ (p : Plan) (ok : IsPlan p) (down : List ℕ) where
  abbrev w : Plan
  w = network_without p down

  abbrev up : Group → Bool
  up r = not (is_one_of p down r.name)

  abbrev known : ℕ → Option ℕ
  known g = group_named w (group_name p g)

  -- a group that is there is the same
  pub placed : (g j : ℕ) → g < length p.groups → known g ≡ Some j
      → slice_get w.groups j ≡ slice_get p.groups g
  placed g j l e =
      let name = group_name p g in
      let t = λ (r : Group). bytes_eq name r.name in
      let there : list_any t w.groups ≡ true = sym (found_any t w.groups) ∙ ap is_some e in
      let z = entry_found t w.groups there in
      let at : slice_get w.groups j ≡ Some z.0 =
      ap (λ o. slice_get w.groups (unwrap_or o 0)) (sym e) ∙ z.1.at in
      let passes : up z.0 ≡ true =
      all_at (λ r. up r ≡ true) w.groups j z.0 (all_pass up p.groups) at in
      let kept : (r : Group) → t r ≡ true → up r ≡ true =
      λ r h. ap (λ n. not (is_one_of p down n)) (sym (same_word name r.name h) ∙ same_word name z.0.name z.1.passes) ∙ passes in
      let back = group_back p ok g l in
      let y = entry_found t p.groups back.there in
      let own : slice_get p.groups g ≡ Some y.0 =
      ap (λ o. slice_get p.groups (unwrap_or o 0)) (sym back.back) ∙ y.1.at in
      at ∙ sym z.1.found ∙ find_in t up kept p.groups ∙ y.1.found ∙ sym own

  -- no two are one
  one : (g k j : ℕ) → g < length p.groups → k < length p.groups → known g ≡ Some j
      → known k ≡ Some j → g ≡ k
  one g k j l m e f =
      let names : group_name p g ≡ group_name p k = ap (λ o. option_map_or (λ (r : Group). r.name) o [])
      (sym (placed g j l e) ∙ placed k j m f) in
      let b = (group_back p ok g l).back in
      let d = (group_back p ok k m).back in
      same_Some g k (sym b ∙ ap (group_named p) names ∙ d)

  -- THE LIST

  pub few : (gs : List ℕ) → length (list_over w p gs) ≤ length gs
  few [] = omega arith
  few (g ∷ gs) = by (known g) (few gs)
    where
      by : (o : Option ℕ) → length (list_over w p gs) ≤ length gs
          → length (cons_option o (list_over w p gs)) ≤ suc (length gs)
      by None k = omega (arith, k)
      by (Some j) k = omega (arith, k)

  within : (g x : ℕ) → may_seize p g x ≡ true → g < length p.groups
  within g x h = let s = seized p g x h in slice_get_within p.groups g s.row s.at

  pub outgoing : (x : ℕ) (gs : List ℕ) → AllByRecursion (λ g. may_seize p g x ≡ true) gs
      → AllByRecursion (λ j. may_seize w j x ≡ true) (list_over w p gs)
  outgoing x [] a = tt
  outgoing x (g ∷ gs) a = by (known g) refl (outgoing x gs a.1)
    where
      by : (o : Option ℕ) → known g ≡ o
          → AllByRecursion (λ j. may_seize w j x ≡ true) (list_over w p gs)
          → AllByRecursion (λ j. may_seize w j x ≡ true) (cons_option o (list_over w p gs))
      by None e k = k
      by (Some j) e k = (
        ap (λ (o : Option Group). option_map_or (λ r. may_seize_row r x) o false)
            (placed g j (within g x a.0) e) ∙ a.0,
        k,
      )

  later : (g j : ℕ) → g < length p.groups → known g ≡ Some j → (gs : List ℕ)
      → AllByRecursion (λ k. g ≢ k) gs → AllByRecursion (λ k. k < length p.groups) gs
      → AllByRecursion (λ i. j ≢ i) (list_over w p gs)
  later g j l e [] d m = tt
  later g j l e (k ∷ gs) d m = by (known k) refl (later g j l e gs d.1 m.1)
    where
      by : (o : Option ℕ) → known k ≡ o → AllByRecursion (λ i. j ≢ i) (list_over w p gs)
          → AllByRecursion (λ i. j ≢ i) (cons_option o (list_over w p gs))
      by None f q = q
      by (Some i) f q = ((λ same. d.0 (one g k j l m.0 e (f ∙ ap Some (sym same)))), q)

  pub differ : (gs : List ℕ) → EachPair (λ g k. g ≢ k) gs
      → AllByRecursion (λ k. k < length p.groups) gs → EachPair (λ g k. g ≢ k) (list_over w p gs)
  differ [] d m = tt
  differ (g ∷ gs) d m = by (known g) refl (differ gs d.1 m.1)
    where
      by : (o : Option ℕ) → known g ≡ o → EachPair (λ g k. g ≢ k) (list_over w p gs)
          → EachPair (λ g k. g ≢ k) (cons_option o (list_over w p gs))
      by None e k = k
      by (Some j) e k = (later g j m.0 e gs d.0 m.1, k)

  pub all_within : (x : ℕ) (gs : List ℕ) → AllByRecursion (λ g. may_seize p g x ≡ true) gs
      → AllByRecursion (λ k. k < length p.groups) gs
  all_within x [] a = tt
  all_within x (g ∷ gs) a = (within g x a.0, all_within x gs a.1)
