-- Each walk of a change is a walk of a mixture: a walk uses one list of each exchange.
use Rattle.tx_change.proofs.Common.{◌≡◌, ◌≢◌, ℕ, ◌+◌, ◌<◌, ◌==◌, Bool, true, false, not, cond, ◌&&◌, ◌||◌, List, [], ◌∷◌, ◌++◌, inl, inr, length, refl, sym, ap, ◌∙◌, subst, arith, eq-eqb, eqb-true, Plan, IsPlan, route_list, is_origin, is_origin_for, Among, among_cases, Finding, IsTrueOf, SameNetwork, IsMixture, origins_same, change_net, IsTrueOfChange}
use Rattle.std.proofs.lemmas.Bool.{true≢false, ne_eqb, leb-true, leb-false}
use Rattle.tx_machine.proofs.Lists.{any_mem, mem_any}
use Rattle.tx_rank.specs.declared.finding.Finding.TheVariants.{Ambiguous, Loop, Short, Long}
use Rattle.tx_rank.specs.Walks.{AllDiffer, Goes, net_of, end_of, before_end, passed, IsWalk, IsLoop, IsShort, IsLong}
use Rattle.tx_rank.proofs.PassedOnce.{before_once}
use Rattle.tx_rank.proofs.Ways.{once_first, end_passed}
use Rattle.tx_plan.specs.Mixed.{mixed}
use Rattle.tx_plan.proofs.Mixing.{list_new, list_old, bar_new, bar_old, mixed_mixture}
use Rattle.tx_change.specs.Shown.{is_listed, takes_new, bars_new, is_long_before, shown_by}

same_number : (x : ℕ) → (x == x) ≡ true
same_number x = eq-eqb x x refl

module _ (old new : Plan) (c : ℕ) (same : SameNetwork old new) (at_end : ℕ → Bool) where
  -- at the end of a walk that passes nothing twice the test decides
  takes_at_end : (x : ℕ) (steps : List (ℕ × ℕ)) → AllDiffer (passed x steps) → takes_new old c at_end x steps (end_of x steps) ≡ at_end (end_of x steps)
  takes_at_end x [] d = ap (λ b. b && at_end x) (same_number x)
  takes_at_end x (s ∷ steps) d =
      let away : x ≢ end_of s.1 steps = λ e. once_first x (passed s.1 steps) d (subst (λ (y : ℕ). Among y (passed s.1 steps)) (sym e) (end_passed s.1 steps)) in
      ap (λ b. cond b (not (is_listed old c x s.0)) (takes_new old c at_end s.1 steps (end_of s.1 steps))) (ne_eqb x (end_of s.1 steps) away) ∙ takes_at_end s.1 steps d.1

  module _ (listed barred : ℕ → Bool) where
    here : (c == c) ≡ true
    here = same_number c

    -- the list of the mixture has the group by which the walk goes on
    has_group : (x g : ℕ) → listed x ≡ not (is_listed old c x g) → Among g (route_list old x c ++ route_list new x c) → Among g (route_list (mixed old new c listed barred) x c)
    has_group x g l m =
        elim (is_listed old c x g) as (λ b. is_listed old c x g ≡ b → listed x ≡ not b → Among g (route_list (mixed old new c listed barred) x c)) [
          | true ↦ λ e l.
              let r = any_mem (λ h. h == g) (route_list old x c) e in
              let is : r.0 ≡ g = eqb-true r.0 g r.2 in
              let from = list_old old new c listed barred x c (ap (λ b. b && listed x) here ∙ l) in
              subst (Among g) (sym from) (subst (λ (h : ℕ). Among h (route_list old x c)) is r.1)
          | false ↦ λ e l.
              let from = list_new old new c listed barred x c (ap (λ b. b && listed x) here ∙ l) in
              subst (Among g) (sym from) (elim (among_cases g (route_list old x c) (route_list new x c) m) [
                | inl a ↦ absurd (true≢false (sym (mem_any (λ h. h == g) (route_list old x c) g a (same_number g)) ∙ e))
                | inr b ↦ b
              ])
        ] refl l

    -- so the walk is one of the mixture
    goes_mixed : (x : ℕ) (steps : List (ℕ × ℕ)) → AllDiffer (before_end x steps) → ((y : ℕ) → Among y (before_end x steps) → listed y ≡ takes_new old c at_end x steps y) → Goes (change_net old new c) x steps
        → Goes (net_of (mixed old new c listed barred) c) x steps
    goes_mixed x [] d takes go = tt
    goes_mixed x (s ∷ steps) d takes go = (
      go.0,
      has_group x s.0 (takes x (inl refl) ∙ ap (λ b. cond b (not (is_listed old c x s.0)) (takes_new old c at_end s.1 steps x)) (same_number x)) go.1,
      go.2,
      goes_mixed s.1 steps d.1
          (λ y m. takes y (inr m) ∙ ap (λ b. cond b (not (is_listed old c x s.0)) (takes_new old c at_end s.1 steps y)) (ne_eqb x y (λ e. once_first x (before_end s.1 steps) d (subst (λ (z : ℕ). Among z (before_end s.1 steps)) (sym e) m))))
          go.3,
    )

  module _ (x : ℕ) (steps : List (ℕ × ℕ)) (walk : IsWalk (change_net old new c) x steps) (once : AllDiffer (before_end x steps)) where
    starts : is_origin_for (mixed old new c (takes_new old c at_end x steps) (bars_new old c x)) x c ≡ true
    starts =
        let listed = takes_new old c at_end x steps in
        let barred = bars_new old c x in
        let at : ((c == c) && barred x) ≡ not (is_origin_for old x c) = ap (λ b. b && barred x) (same_number c) ∙ ap (λ b. b && not (is_origin_for old x c)) (same_number x) in
        elim (is_origin_for old x c) as (λ b. is_origin_for old x c ≡ b → (b || is_origin_for new x c) ≡ true → ((c == c) && barred x) ≡ not b → is_origin_for (mixed old new c listed barred) x c ≡ true) [
          | true ↦ λ e o q. ap (λ b. is_origin old x && not b) (bar_old old new c listed barred x c q) ∙ e
          | false ↦ λ e o q. (λ i. sym (origins_same old new same x) i && not (bar_new old new c listed barred x c q i)) ∙ o
        ] refl walk.origin at

    pub walk_mixed : IsWalk (net_of (mixed old new c (takes_new old c at_end x steps) (bars_new old c x)) c) x steps
    walk_mixed = record { origin = starts; goes = goes_mixed (takes_new old c at_end x steps) (bars_new old c x) x steps once (λ y m. refl) walk.goes }

module _ (old new : Plan) (c : ℕ) (same : SameNetwork old new) where
  loop_shown : (x : ℕ) (steps : List (ℕ × ℕ)) → IsLoop (change_net old new c) x steps → IsLoop (net_of (mixed old new c (takes_new old c (λ x. false) x steps) (bars_new old c x)) c) x steps
  loop_shown x steps l = record { walk = walk_mixed old new c same (λ x. false) x steps l.walk l.once; again = l.again; once = l.once }

  long_shown : (limit x : ℕ) (steps : List (ℕ × ℕ)) → IsLong (change_net old new c) limit x steps → IsLong (net_of (mixed old new c (takes_new old c (λ x. false) x steps) (bars_new old c x)) c) limit x steps
  long_shown limit x steps l = record { walk = walk_mixed old new c same (λ x. false) x steps l.walk (before_once x steps l.once); once = l.once; away = l.away; long = l.long }

  short_shown : (spare x : ℕ) (steps : List (ℕ × ℕ)) → IsShort (change_net old new c) spare x steps → IsShort (net_of (mixed old new c (takes_new old c (is_long_before old c spare) x steps) (bars_new old c x)) c) spare x steps
  short_shown spare x steps s =
      record { walk = walk_mixed old new c same (is_long_before old c spare) x steps s.walk (before_once x steps s.once); once = s.once; away = s.away; few = few }
    where
      few : length (route_list (mixed old new c (takes_new old c (is_long_before old c spare) x steps) (bars_new old c x)) (end_of x steps) c) < spare + 1
      few =
          let z = end_of x steps in
          let listed = takes_new old c (is_long_before old c spare) x steps in
          let barred = bars_new old c x in
          let at : ((c == c) && listed z) ≡ is_long_before old c spare z = ap (λ b. b && listed z) (same_number c) ∙ takes_at_end old new c same (is_long_before old c spare) x steps s.once in
          let under = s.few in
          elim (is_long_before old c spare z) as (λ b. is_long_before old c spare z ≡ b → ((c == c) && listed z) ≡ b → length (route_list (mixed old new c listed barred) z c) < spare + 1) [
            | true ↦ λ e q.
                let l = leb-true (spare + 1) (length (route_list old z c)) e in
                subst (λ (gs : List ℕ). length gs < spare + 1) (sym (list_new old new c listed barred z c q)) (omega arith)
            | false ↦ λ e q.
                let l = leb-false (spare + 1) (length (route_list old z c)) e in
                subst (λ (gs : List ℕ). length gs < spare + 1) (sym (list_old old new c listed barred z c q)) (omega arith)
          ] refl at

module _ {A : Type 0} (old new : Plan) (limit spare : ℕ) (ok : IsPlan old) (new_ok : IsPlan new) (same : SameNetwork old new) where
  pub shown_mixture : (f : Finding A) → IsMixture old new (shown_by old new spare f)
  shown_mixture (Ambiguous a b) = record { rules = ok; network = record { exchanges = refl; codes = refl; ranges = refl; groups = refl }; lists = λ x c. inl refl; bars = λ x c. inl refl }
  shown_mixture (Loop c w) = mixed_mixture old new c (takes_new old c (λ x. false) w.start w.steps) (bars_new old c w.start) ok new_ok same
  shown_mixture (Short c w) = mixed_mixture old new c (takes_new old c (is_long_before old c spare) w.start w.steps) (bars_new old c w.start) ok new_ok same
  shown_mixture (Long c w) = mixed_mixture old new c (takes_new old c (λ x. false) w.start w.steps) (bars_new old c w.start) ok new_ok same

  pub shown_true : (f : Finding A) → IsTrueOfChange old new limit spare f → IsTrueOf (shown_by old new spare f) limit spare f
  shown_true (Ambiguous a b) h = h
  shown_true (Loop c w) h = (h.0, loop_shown old new c same w.start w.steps h.1)
  shown_true (Short c w) h = (h.0, short_shown old new c same spare w.start w.steps h.1)
  shown_true (Long c w) h = (h.0, long_shown old new c same limit w.start w.steps h.1)
