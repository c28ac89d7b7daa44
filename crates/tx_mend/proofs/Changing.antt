-- A mended plan changes least.
use Rattle.tx_mend.proofs.Common.{◌≡◌, ◌≢◌, ℕ, suc, ◌<◌, ◌≤◌, Bool, true, false, not, cond, ◌&&◌, ◌||◌, ◌==◌, eqb-true, List, [], ◌∷◌, ◌++◌, length, Option, Some, None, inl, inr, refl, sym, ap, subst, ◌∙◌, arith, append-nil, filter, if◌then◌else◌, list_any, option_map_or, and_parts, or_cases, cases_lt, filter-append, Plan, home_of, IsPlan, EachPair, route_list, is_origin_for, rerouted, Among, pairs_kept, among_cases, among_filter, filter_among, net_of, IsReached, IsFalling, RanksOfCode, keeps_routes, ranks_origins, leads_below, stays_by, list_with, rank_keeping, kept_rank, mended, listed_within}
use Rattle.tx_plan.proofs.Lists.{same_tests}
use Rattle.tx_mend.specs.Lists.{filled, groups_below, list_of_rank, list_by, full_list, comes_to, mended_list}
use Rattle.tx_mend.specs.Laws.{CouldStay, ComesFirst, ChangesLeast, MendingChangesLeast}
use Rattle.tx_mend.proofs.Filled.{stands, stands_any, filled_few, filled_keeps, filled_full, filled_extends, filled_pairs}
use Rattle.tx_mend.proofs.InOrder.{below_in_order}
use Rattle.tx_mend.proofs.Least.{least_keeping}
use Rattle.tx_mend.proofs.LeastLists.{below_leads, filled_enough}
use Rattle.tx_mend.proofs.Kept.{IsLost, below_of, kept_ranking, origins_ranked, stays_or_lost}
use Rattle.tx_mend.proofs.Trimmed.{is_mended, called_reached, kept_mended}

-- the same is kept by two tests that agree on the list
filter_alike : (s t : ℕ → Bool) (xs : List ℕ) → ((x : ℕ) → Among x xs → s x ≡ t x) → filter s xs ≡ filter t xs
filter_alike s t [] h = refl
filter_alike s t (x ∷ xs) h = ap (λ b. cond b (x ∷ filter s xs) (filter s xs)) (h x (inl refl)) ∙ ap (λ l. cond (t x) (x ∷ l) l) (filter_alike s t xs (λ y m. h y (inr m)))

filter_all : (t : ℕ → Bool) (xs : List ℕ) → ((x : ℕ) → Among x xs → t x ≡ true) → filter t xs ≡ xs
filter_all t [] h = refl
filter_all t (x ∷ xs) h = ap (λ b. cond b (x ∷ filter t xs) (filter t xs)) (h x (inl refl)) ∙ ap (λ l. x ∷ l) (filter_all t xs (λ y m. h y (inr m)))

module _ (p : Plan) (ok : IsPlan p) (limit spare : ℕ) (small : spare ≤ 15) (c : ℕ) (known : c < length p.codes) where
  abbrev M : Plan
  M = mended p limit spare

  abbrev R : RanksOfCode
  R = kept_rank p c limit spare

  -- the list of an exchange by the kept ranks
  abbrev by_ranks : ℕ → List ℕ
  by_ranks x = list_by p R c spare x

  abbrev present : ℕ → List ℕ
  present x = route_list p x c

  list_is : (x : ℕ) → x < length p.exchanges → route_list M x c ≡ mended_list p limit spare c x
  list_is x h = (is_mended p ok limit spare small).lists x c h known

  -- what holds of present lists, and of those by the kept ranks where calls come, holds of the mended ones
  holds : (P : List ℕ → Type 0) (x : ℕ) → x < length p.exchanges → P (present x)
      → (keeps_routes p c limit spare ≡ false → comes_to p limit spare c x ≡ true → P (by_ranks x)) → P (route_list M x c)
  holds P x h here there = subst P (sym (list_is x h)) (elim (keeps_routes p c limit spare) as (λ b. keeps_routes p c limit spare ≡ b → P (mended_list p limit spare c x)) [
    | true ↦ λ k. subst P (sym (kept_mended p ok limit spare x c k)) here
    | false ↦ λ k. elim (comes_to p limit spare c x) as (λ b. comes_to p limit spare c x ≡ b → P (if b then full_list p limit spare c x else present x)) [
      | true ↦ λ t. subst P (sym (ap (λ b. if b then present x else by_ranks x) k)) (there k t)
      | false ↦ λ t. here
    ] refl
  ] refl)

  -- WHAT STAYS

  -- a group that stays by the kept ranks stands in the list by them
  stays_listed : (x g : ℕ) → Among g (present x) → stays_by p R x g ≡ true → Among g (by_ranks x)
  stays_listed x g m s = by (R x) refl s
    where
      by : (o : Option ℕ) → R x ≡ o → option_map_or (λ r. leads_below p R r x g) o true ≡ true → Among g (list_of_rank p R c spare x o)
      by None e t = m
      by (Some r) e t = filled_keeps spare (filter (λ g. leads_below p R r x g) (present x)) (groups_below p R r x) g (among_filter (λ g. leads_below p R r x g) g (present x) m t)

  stays_mended : (x g : ℕ) → Among g (present x) → stays_by p R x g ≡ true → Among g (route_list M x c)
  stays_mended x g m s = holds (λ (l : List ℕ). Among g l) x (listed_within p ok x c g m) m (λ k t. stays_listed x g m s)

  -- a group that was lost could not stay
  lost_not : (x g : ℕ) → IsLost p ok c limit spare R x g → CouldStay p M limit spare x c g → ⊥
  lost_not x g lost w =
      let same : w.routing ≡ rerouted p w.routing.routes p.bars = w.same.same in
      let Q : Plan = rerouted p w.routing.routes p.bars in
      let q_ok : IsPlan Q = subst (λ (k : Plan). IsPlan k) same w.same.plan in
      let falling : IsFalling Q w.certified.ranks c limit spare = subst (λ (k : Plan). IsFalling k w.certified.ranks c limit spare) same w.certified.falling in
      let list : ℕ → List ℕ = list_with p c lost.at x g in
      let keeps : (y h : ℕ) → Among h (list y) → Among h (route_list Q y c) = λ y h m.
      let f = filter_among (λ h. stays_by p lost.at y h || ((y == x) && (h == g))) h (present y) m in
      subst (λ (k : Plan). Among h (route_list k y c)) same (elim (or_cases (stays_by p lost.at y h) ((y == x) && (h == g)) f.1) [
        | inl s ↦ w.others y h f.0 (stays_mended y h f.0 (lost.stay y h f.0 s))
        | inr b ↦ (let t = and_parts (y == x) (h == g) b in
            let at : y ≡ x = eqb-true y x t.0 in
            let is : h ≡ g = eqb-true h g t.1 in
            subst (λ (z : ℕ). Among z (route_list w.routing y c)) (sym is) (subst (λ (z : ℕ). Among g (route_list w.routing z c)) (sym at) w.itself))
      ]) in
      let all : ranks_origins p c (rank_keeping p c limit spare list) ≡ true = origins_ranked p ok c known (rank_keeping p c limit spare list) (λ o starts.
      let r = w.certified.origins o (subst (λ (k : Plan). is_origin_for k o c ≡ true) (sym same) starts) in
      let n = least_keeping p w.routing.routes q_ok w.certified.ranks c limit spare falling list keeps o r.0 r.1 in
      (n.0, n.1)) in
      let fails = lost.fails in
      let bad : ⊥ = cc in
      bad

  pub keeps_all : (x g : ℕ) → Among g (present x) → CouldStay p M limit spare x c g → Among g (route_list M x c)
  keeps_all x g m w = elim (stays_or_lost p ok c limit spare x g (listed_within p ok x c g m) m) [
    | inl s ↦ stays_mended x g m s
    | inr l ↦ absurd (lost_not x g l w)
  ]

  -- WHAT IS NEW

  new_needed : (x g : ℕ) → Among g (by_ranks x) → (Among g (present x) → ⊥) → length (by_ranks x) ≡ suc spare
  new_needed x g m new = by (R x) refl m
    where
      by : (o : Option ℕ) → R x ≡ o → Among g (list_of_rank p R c spare x o) → length (list_of_rank p R c spare x o) ≡ suc spare
      by None e n = absurd (new n)
      by (Some r) e n =
          let had = filter (λ g. leads_below p R r x g) (present x) in
          let more = groups_below p R r x in
          let few : length had ≤ spare = elim (cases_lt spare (length had)) [
            | inl l ↦ absurd (new (filter_among (λ g. leads_below p R r x g) g (present x) (subst (λ (l : List ℕ). Among g l) (filled_full spare had more l) n)).0)
            | inr l ↦ l
          ] in
          let away : x ≢ home_of p c = λ h. at_home h r e n in
          let enough = filled_enough p ok limit spare c small R (kept_ranking p ok c limit spare) x r e away in
          let most = filled_few spare had more (suc spare) (omega arith) (omega arith) in
          omega arith
        where
          at_home : x ≡ home_of p c → (r : ℕ) → R x ≡ Some r → Among g (filled spare (filter (λ g. leads_below p R r x g) (present x)) (groups_below p R r x)) → ⊥
          at_home h r e n =
              let zero_rank : R x ≡ Some 0 = ap R h ∙ (kept_ranking p ok c limit spare).home in
              let z : r ≡ 0 = let k = sym e ∙ zero_rank in cc in
              let k = filled_extends spare (filter (λ g. leads_below p R r x g) (present x)) (groups_below p R r x) in
              elim (among_cases g (filter (λ g. leads_below p R r x g) (present x)) k.added (subst (λ (l : List ℕ). Among g l) k.is n)) [
                | inl a ↦ new (filter_among (λ g. leads_below p R r x g) g (present x) a).0
                | inr a ↦ (let l = (below_leads p ok limit spare c small R (kept_ranking p ok c limit spare) r x g (k.of g a)).below in absurd (omega arith))
              ]

  pub adds_needed : (x g : ℕ) → x < length p.exchanges → Among g (route_list M x c) → (Among g (present x) → ⊥) → IsReached (net_of M c) x × (length (route_list M x c) ≡ suc spare)
  adds_needed x g h m new =
      holds (λ (l : List ℕ). Among g l → IsReached (net_of M c) x × (length l ≡ suc spare)) x h (λ n. absurd (new n))
      (λ k t n. (called_reached p ok limit spare small c known x t, new_needed x g n new)) m

  -- WHERE NO CALLS COME

  pub stays_unreached : (x : ℕ) → x < length p.exchanges → (IsReached (net_of M c) x → ⊥) → route_list M x c ≡ present x
  stays_unreached x h none = holds (λ (l : List ℕ). l ≡ present x) x h refl (λ k t. absurd (none (called_reached p ok limit spare small c known x t)))

  -- IN WHICH ORDER

  abbrev Begins : ℕ → List ℕ → Type 0
  Begins x l = (added : List ℕ) × (l ≡ filter (λ g. list_any (λ h. h == g) l) (present x) ++ added)

  begins_present : (x : ℕ) → Begins x (present x)
  begins_present x = ([], sym (append-nil (filter (λ g. list_any (λ h. h == g) (present x)) (present x)) ∙ filter_all (λ g. list_any (λ h. h == g) (present x)) (present x) (λ g m. stands_any g (present x) m)))

  begins_by_ranks : (x : ℕ) → Begins x (by_ranks x)
  begins_by_ranks x = by (R x) refl
    where
      by : (o : Option ℕ) → R x ≡ o → Begins x (list_of_rank p R c spare x o)
      by None e = begins_present x
      by (Some r) e =
          let t : ℕ → Bool = λ g. leads_below p R r x g in
          let had = filter t (present x) in
          let more = groups_below p R r x in
          let all = filled spare had more in
          let k = filled_extends spare had more in
          let same : (g : ℕ) → Among g (present x) → t g ≡ list_any (λ h. h == g) all = λ g m. same_tests (t g) (list_any (λ h. h == g) all)
          (λ a. stands_any g all (filled_keeps spare had more g (among_filter t g (present x) m a)))
          (λ b. elim (among_cases g had k.added (subst (λ (l : List ℕ). Among g l) k.is (stands g all b))) [
            | inl n ↦ (filter_among t g (present x) n).1
            | inr n ↦ below_of p ok c limit spare R x r g (below_leads p ok limit spare c small R (kept_ranking p ok c limit spare) r x g (k.of g n))
          ]) in
          (k.added, k.is ∙ ap (λ (l : List ℕ). l ++ k.added) (filter_alike t (λ g. list_any (λ h. h == g) all) (present x) same))

  pub keeps_order : (x : ℕ) → x < length p.exchanges → Begins x (route_list M x c)
  keeps_order x h = holds (Begins x) x h (begins_present x) (λ k t. begins_by_ranks x)

  -- what is new comes by rank

  abbrev is_new : (x g : ℕ) → Bool
  is_new x g = not (list_any (λ h. h == g) (present x))

  none_new : (x : ℕ) (l : List ℕ) → ((g : ℕ) → Among g l → Among g (present x)) → filter (is_new x) l ≡ []
  none_new x [] h = refl
  none_new x (g ∷ gs) h = ap (λ b. cond (not b) (g ∷ filter (is_new x) gs) (filter (is_new x) gs)) (stands_any g (present x) (h g (inl refl))) ∙ none_new x gs (λ k m. h k (inr m))

  abbrev InOrder : ℕ → List ℕ → Type 0
  InOrder x l = EachPair (ComesFirst p R x) (filter (is_new x) l)

  present_in_order : (x : ℕ) → InOrder x (present x)
  present_in_order x = subst (EachPair (ComesFirst p R x)) (sym (none_new x (present x) (λ g m. m))) tt

  by_ranks_in_order : (x : ℕ) → InOrder x (by_ranks x)
  by_ranks_in_order x = by (R x)
    where
      by : (o : Option ℕ) → InOrder x (list_of_rank p R c spare x o)
      by None = present_in_order x
      by (Some r) =
          let t : ℕ → Bool = λ g. leads_below p R r x g in
          let had = filter t (present x) in
          let more = groups_below p R r x in
          let k = filled_extends spare had more in
          let is : filter (is_new x) (filled spare had more) ≡ filter (is_new x) k.added =
          ap (filter (is_new x)) k.is ∙ filter-append (is_new x) had k.added ∙ ap (λ l. l ++ filter (is_new x) k.added) (none_new x had (λ g m. (filter_among t g (present x) m).0)) in
          subst (EachPair (ComesFirst p R x)) (sym is) (pairs_kept (ComesFirst p R x) (is_new x) k.added (filled_pairs spare (ComesFirst p R x) had more (below_in_order p R x r)))

  pub adds_in_order : (x : ℕ) → x < length p.exchanges → InOrder x (route_list M x c)
  adds_in_order x h = holds (InOrder x) x h (present_in_order x) (λ k t. by_ranks_in_order x)

pub changes_least : (p : Plan) → IsPlan p → (limit spare : ℕ) → spare ≤ 15 → ChangesLeast p (mended p limit spare) limit spare
changes_least p ok limit spare small = record {
  all = λ x c g h known m w. keeps_all p ok limit spare small c known x g m w;
  needed = λ x c g h known m new. adds_needed p ok limit spare small c known x g h m new;
  order = λ x c h known. keeps_order p ok limit spare small c known x h;
  added = λ x c h known. adds_in_order p ok limit spare small c known x h;
  unreached = λ x c h known none. stays_unreached p ok limit spare small c known x h none;
}

pub least_change : MendingChangesLeast
least_change p ok limit spare small can = changes_least p ok limit spare small
