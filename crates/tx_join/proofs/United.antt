-- The names of a list and then the others of another list: both are there, and none twice.
use Rattle.tx_join.proofs.Common.{◌≡◌, ◌≢◌, ℕ, Bool, true, false, not, ◌||◌, List, [], ◌∷◌, ◌++◌, Some, refl, sym, ap, ◌∙◌, filter, position, slice_get, list_any, AllByRecursion, bytes_eq, true≢false, not-true, list_any-append, bytes_eq-Decides, or-true, slice_get_within, EachPair, all_map, slice_get_left, any_in, all_pass, pairs_kept, pairs_joined}
use Rattle.tx_plan.proofs.ByIndex.{index_back}

abbrev pub named : List (List ℕ) → List ℕ → Bool
named ns w = list_any (bytes_eq w) ns

-- the names of the first list, and then the others of the second
abbrev pub united : (ns ms : List (List ℕ)) → List (List ℕ)
united ns ms = ns ++ filter (λ w. not (named ns w)) ms

pub itself : (w : List ℕ) → bytes_eq w w ≡ true
itself w = (bytes_eq-Decides w w).1 refl

all_named : (ns : List (List ℕ)) → AllByRecursion (λ w. named ns w ≡ true) ns
all_named [] = tt
all_named (n ∷ ns) = (
  ap (λ b. b || list_any (bytes_eq n) ns) (itself n),
  all_map ns (λ w h. ap (λ b. bytes_eq w n || b) h ∙ or-true (bytes_eq w n)) (all_named ns),
)

module _ (ns ms : List (List ℕ)) (w : List ℕ) where
  pub in_first : named ns w ≡ true → named (united ns ms) w ≡ true
  in_first h = list_any-append (bytes_eq w) ns (filter (λ v. not (named ns v)) ms) ∙ ap (λ b. b || named (filter (λ v. not (named ns v)) ms) w) h

  -- the others of the second list are those that the first does not have
  pub in_others : named ns w ≡ false → named (filter (λ v. not (named ns v)) ms) w ≡ named ms w
  in_others h = any_in (bytes_eq w) (λ v. not (named ns v)) (λ z e. ap not (ap (named ns) (sym ((bytes_eq-Decides w z).0 e)) ∙ h)) ms

  pub in_second : named ms w ≡ true → named (united ns ms) w ≡ true
  in_second h = by (named ns w) refl
    where
      by : (b : Bool) → named ns w ≡ b → named (united ns ms) w ≡ true
      by true e = in_first e
      by false e = list_any-append (bytes_eq w) ns (filter (λ v. not (named ns v)) ms) ∙ ap (λ b. b || named (filter (λ v. not (named ns v)) ms) w) e ∙ in_others e ∙ h

module _ (ns ms : List (List ℕ)) (n : EachPair (λ x y. x ≢ y) ns) (m : EachPair (λ x y. x ≢ y) ms) where
  pub united_differ : EachPair (λ x y. x ≢ y) (united ns ms)
  united_differ = pairs_joined (λ w. named ns w ≡ true) (λ w. not (named ns w) ≡ true) (λ x y. x ≢ y) ns (filter (λ w. not (named ns w)) ms)
      n (pairs_kept (λ x y. x ≢ y) (λ w. not (named ns w)) ms m)
      (all_named ns) (all_pass (λ w. not (named ns w)) ms)
      (λ x y p q e. true≢false (sym p ∙ ap (named ns) e ∙ not-true (named ns y) q))

  -- a name of the first list keeps its index
  pub index_stays : (i : ℕ) (w : List ℕ) → slice_get ns i ≡ Some w → position (bytes_eq w) (united ns ms) ≡ Some i
  index_stays i w e =
      index_back (λ v. v) (united ns ms) i w united_differ (slice_get_left ns (filter (λ v. not (named ns v)) ms) i (slice_get_within ns i w e) ∙ e)
