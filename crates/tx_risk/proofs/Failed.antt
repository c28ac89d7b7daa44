-- No call is on a failed group.
use Rattle.tx_risk.proofs.Common.{◌≡◌, ℕ, ◌==◌, true, false, not, ◌&&◌, List, [], ◌∷◌, ◌⊎◌, inl, inr, Option, Some, None, refl, sym, ap, ◌∙◌, subst, if◌then◌else◌, AllByRecursion, Plan, home_of, IsPlan, code_of, is_barred, filter_among, Circuit, Line, Event, Key, Route, Confirm, Clear, Released, Fail, Restore, Block, Unblock, CircuitOut, CircuitIn, LineFault, LineMend, LineAway, LineBack, Phase, Standing, Calling, Connected, Service, Refusal, Reply, Call, call_of, exchange_of, is_first, State, opening, line_answer, refusal, Na, answered, at_line, at_trunk, line_of, routed_for, confirmed_by, rival, confirmed, with_call, accepted, counted, unless_refused, step, Holds, inv_opening, step_keeps, NoneOnFailed}
use Rattle.std.proofs.lemmas.Bool.{cases_eq, both_ways, and_parts, or_left, not-true}
use Rattle.std.specs.Cmp.{nat_cmp_total, unsigned_tied}
use Rattle.std.specs.FinSet as set
use Rattle.tx_machine.specs.InUse.{uses_group, choice}
use Rattle.tx_machine.specs.Runs.{run, InEveryState}
use Rattle.tx_machine.proofs.Playing.{shut_out}
use Rattle.tx_risk.proofs.Clear.{step_clear}

module _ (p : Plan) (s : State) where
  -- the failed groups stay what they were
  abbrev Same : State → Type 0
  Same t = t.failed ≡ s.failed

  line_same : (c : Call) (l : Line) (o : Option Service) → Same (at_line p s c l o).1
  line_same c l None = refl
  line_same c l (Some service) = refl

  trunk_same : (c : Call) (o : Option Circuit) → Same (at_trunk p s c o).1
  trunk_same c None = refl
  trunk_same c (Some x) = refl

  route_same : (c : Call) (o : Option ℕ) → Same (routed_for p s c o).1
  route_same c None = refl
  route_same c (Some code) =
      elim (is_first c.hops && is_barred p (exchange_of p c) code)
      as (λ b. Same (if b then answer else if home_of p code == exchange_of p c then line else
      trunk).1) [
        | true ↦ refl
        | false ↦ elim (home_of p code == exchange_of p c)
            as (λ b. Same (if b then line else trunk).1) [
              | true ↦ line_same c (line_of p code c.keyed)
                  (line_answer p s (line_of p code c.keyed))
              | false ↦ trunk_same c (choice p s (exchange_of p c) code)
            ]
      ]
    where
      answer : Reply × State
      answer = answered p c.number Na s

      line : Reply × State
      line = at_line p s c (line_of p code c.keyed) (line_answer p s (line_of p code c.keyed))

      trunk : Reply × State
      trunk = at_trunk p s c (choice p s (exchange_of p c) code)

  meet_same : (c : Call) (x : Circuit) (o : Option Call) → Same (confirmed_by p s c x o).1
  meet_same c x None = refl
  meet_same c x (Some d) = refl

  confirm_same : (c : Call) (phase : Phase) → Same (confirmed p s c phase).1
  confirm_same c Standing = refl
  confirm_same c (Calling x) = meet_same c x (rival p s c x)
  confirm_same c (Connected l) = refl

  with_same : (o : Option Call) (act : Call → Reply × State) → ((c : Call) → Same (act c).1)
      → Same (with_call o s act).1
  with_same None act each = refl
  with_same (Some c) act each = each c

  -- a group that is failed after another event than a failure was failed before
  abbrev Before : State → Type 0
  Before t = (g : ℕ) → set.contains t.failed g ≡ true → set.contains s.failed g ≡ true

  same_before : (t : State) → Same t → Before t
  same_before t e g h = ap (λ f. set.contains f g) (sym e) ∙ h

  restored_before : (k g : ℕ) → set.contains (set.remove s.failed k) g ≡ true
      → set.contains s.failed g ≡ true
  restored_before k g h =
      let e : set.contains (set.remove s.failed k) g ≡ (not (g == k) && set.contains s.failed g) =
      set.contains-remove nat_cmp_total s.failed k g
      ∙ ap (λ t. not t && set.contains s.failed g) (unsigned_tied g k) in
      (and_parts (not (g == k)) (set.contains s.failed g) (sym e ∙ h)).1

  failed_after : (k g : ℕ) → set.contains (set.insert s.failed k) g ≡ true
      → (g ≡ k) ⊎ (set.contains s.failed g ≡ true)
  failed_after k g h = elim (cases_eq g k) [
    | inl e ↦ inl e
    | inr ne ↦ inr (elim (set.contains s.failed g) as (λ b. set.contains s.failed g ≡ b
        → b ≡ true) [
          | true ↦ λ e. refl
          | false ↦ λ e. absurd
              (both_ways _ (shut_out s.failed (k ∷ []) g e
              (λ m. elim m [ inl q ↦ ne (sym q) | inr z ↦ z ])) h)
        ] refl)
  ]

  is_fail : (e : Event) → ((k : ℕ) × (e ≡ Fail k)) ⊎ Before (accepted p s e).1
  is_fail (Fail k) = inl (k, refl)
  is_fail (Restore k) = inr (restored_before k)
  is_fail (Route n) = inr
      (same_before (accepted p s (Route n)).1
      (with_same (call_of n s.calls) (λ c. routed_for p s c (code_of p c.keyed))
      (λ c. route_same c (code_of p c.keyed))))
  is_fail (Confirm n) =
      inr (same_before (accepted p s (Confirm n)).1
      (with_same (call_of n s.calls) (λ c. confirmed p s c c.phase) (λ c. confirm_same c c.phase)))
  is_fail (Key line keyed) = inr (λ g h. h)
  is_fail (Clear n party) = inr (λ g h. h)
  is_fail (Released x) = inr (λ g h. h)
  is_fail (Block k) = inr (λ g h. h)
  is_fail (Unblock k) = inr (λ g h. h)
  is_fail (CircuitOut x) = inr (λ g h. h)
  is_fail (CircuitIn x) = inr (λ g h. h)
  is_fail (LineFault l) = inr (λ g h. h)
  is_fail (LineMend l) = inr (λ g h. h)
  is_fail (LineAway l) = inr (λ g h. h)
  is_fail (LineBack l) = inr (λ g h. h)

  module _ (h : Holds p s) (none : NoneOnFailed s) where
    after_fail : (k : ℕ) → NoneOnFailed (accepted p s (Fail k)).1
    after_fail k g f c m =
        let i = filter_among (λ c. not (uses_group k c)) c s.calls m in
        elim (failed_after k g f) [
          | inl e ↦ subst (λ g. uses_group g c ≡ false) (sym e)
              (not-true _ i.1)
          | inr o ↦ none g o c i.0
        ]

    after_other : (e : Event) → Before (step p s e).1 → NoneOnFailed (step p s e).1
    after_other e before g f c m =
        step_clear p (λ g. set.contains (step p s e).1.failed g) (λ n. Unit {0}) s h
        (λ g r. or_left _ _ (before g r)) (λ c m t g r. none g (before g r) c m) e c m tt g f

    pub step_failed : (e : Event) → NoneOnFailed (step p s e).1
    step_failed e = elim (is_fail e) [
      | inl (k, q) ↦ subst (λ e. NoneOnFailed (step p s e).1) (sym q) (at k (refusal p s (Fail k)))
      | inr before ↦ after_other e (unless (refusal p s e) before)
    ]
      where
        at : (k : ℕ) (o : Option Refusal)
            → NoneOnFailed (unless_refused o s (counted (accepted p s (Fail k)))).1
        at k (Some r) = none
        at k None = after_fail k

        unless : (o : Option Refusal) → Before (accepted p s e).1
            → Before (unless_refused o s (counted (accepted p s e))).1
        unless (Some r) before = λ g h. h
        unless None before = before

module _ (p : Plan) (ok : IsPlan p) where
  pub none_first : (numbers count : ℕ) → NoneOnFailed (opening numbers count)
  none_first numbers count g f c m = absurd m

  none_along : (s : State) → Holds p s → NoneOnFailed s → (events : List Event)
      → AllByRecursion (λ m. NoneOnFailed m.after) (run p s events)
  none_along s h none [] = tt
  none_along s h none (e ∷ events) = let n = step_failed p s h none e in
      (n, none_along (step p s e).1 (step_keeps p ok s h e) n events)

  pub none_in : InEveryState p NoneOnFailed
  none_in numbers count events = (
    none_first numbers count,
    none_along (opening numbers count) (inv_opening p numbers)
        (none_first numbers count) events,
  )
