-- Calls that are carried one after another: each that stands is connected.
use Rattle.tx_fill.proofs.Common.{◌≡◌, ◌≢◌, ℕ, zero, suc, ◌+◌, ◌*◌, ◌-◌, ◌^◌, ◌<◌, ◌≤◌, ◌==◌, nat_le, eqb-true, true, false, ◌&&◌, List, [], ◌∷◌, ◌++◌, inl, inr, map, length, Option, Some, None, refl, sym, ap, ◌∙◌, subst, arith, if◌then◌else◌, length-le_from_distinct_below, Plan, IsPlan, Among, full_number, Line, AllDiffer, all_distinct, any_among, Key, Route, Confirm, Block, Refusal, Exhausted, Reply, state_after, State, opening, Holds, all_from_mem, line_pairs}
use Rattle.std.specs.List.{AllByRecursion}
use Rattle.std.specs.FinSet as set
use Rattle.std.specs.Ordering.{nat_cmp, eq_by_cmp}
use Rattle.std.proofs.lemmas.Bool.{eqb-false, or_left, or_right, both_ways, not-false}
use Rattle.std.proofs.lemmas.Cmp.{nat_cmp_total, eq_by_cmp_equiv}
use Rattle.std.proofs.Math.Nat.{mul-le-mul, add-mul}
use Rattle.tx_plan.proofs.Among.{among_cases}
use Rattle.tx_machine.specs.Call.{Call, start_of, is_connected}
use Rattle.tx_machine.specs.Refusals.{refusal, refusals, is_group}
use Rattle.tx_machine.specs.Step.{step, accepted, counted, keyed_call, unless_refused}
use Rattle.tx_machine.proofs.Invariant.{inv_opening}
use Rattle.tx_machine.proofs.Steps.{accepted_keeps, step_keeps, tests_false}
use Rattle.tx_machine.proofs.Unrefused.{can_key, group_within}
use Rattle.tx_fill.specs.Fills.{is_seized, carried, most_circuits, goes_on, called, filled, fill_state}
use Rattle.tx_fill.proofs.FewHops.{few_hops}
use Rattle.tx_fill.proofs.OneRouted.{AreConnected, OthersAre, OfCall, StandsAfter, Comes, comes, confirms}

module _ (p : Plan) (ok : IsPlan p) where
  -- how many events a call may take
  abbrev each : ℕ
  each = 2 * most_circuits p + 1

  record Rests (s : State) : Type 0 where
    held : Holds p s
    all : AreConnected s.calls
    numbers : s.numbers ≤ 2 ^ 32 - 1
    events : s.events ≤ 4096 + s.numbers * each

  room : (n e : ℕ) → n ≤ 2 ^ 32 - 1 → e ≤ 4096 + n * each → e < 2 ^ 64 - 1
  room n e few within =
      let groups = ok.few_groups in
      let long : each ≤ 1966083 = omega arith in
      let all : n * each ≤ (2 ^ 32 - 1) * 1966083 = mul-le-mul few long in
      omega arith

  -- the call of a number is carried over so many circuits at most
  abbrev IsCarried : (n j : ℕ) → Type 0
  IsCarried n j = (k : ℕ) (s : State) → Holds p s → OthersAre n s.calls
      → OfCall n s.calls (StandsAfter k) → k + j ≡ most_circuits p → s.numbers ≤ 2 ^ 32 - 1
      → s.events + 2 * j ≤ 4096 + s.numbers * each → Rests (carried p n j s)

  goes : (n j k : ℕ) (s : State) → Holds p s → OthersAre n s.calls → OfCall n s.calls (StandsAfter k)
      → k + j ≡ most_circuits p → s.numbers ≤ 2 ^ 32 - 1 → s.events + 2 * j ≤ 4096 + s.numbers * each
      → Rests (carried p n j s)
  unfolding carried
  goes n zero k s held others long sum numbers events =
      record { held = held; all = all; numbers = numbers; events = omega arith }
    where
      all : AreConnected s.calls
      all c m =
          elim (c.number == n) as (λ b. (c.number == n) ≡ b → is_connected c.phase ≡ true) [
            | true ↦ λ e.
                let l = (long c m (eqb-true c.number n e)).1 in
                let kept = held.each c m in
                let few = few_hops p ok (start_of p c) c.hops kept.joined kept.once in
                absurd (omega arith)
            | false ↦ λ e. others c m (eqb-false c.number n e)
          ] refl
  goes n (suc j) k s held others long sum numbers events =
      by (step p s (Route n)) refl
      (comes p k s n others long (room s.numbers s.events numbers (omega arith))) (goes n j)
    where
      by : (r : Reply × State) → step p s (Route n) ≡ r → Comes p k s n r → IsCarried n j
          → Rests (if is_seized r.0 then carried p n j (step p r.1 (Confirm n)).1 else r.1)
      by r e (inl a) next =
          let one = a.events in
          rw a.unseized (record {
            held = subst (λ (q : Reply × State). Holds p q.1) e (step_keeps p ok s held (Route n));
            all = a.all;
            numbers = subst (λ (m : ℕ). m ≤ 2 ^ 32 - 1) (sym a.numbers) numbers;
            events = subst (λ (m : ℕ). r.1.events ≤ 4096 + m * each) (sym a.numbers) (omega arith);
          })
      by r e (inr a) next =
          let t = r.1 in
          let one = a.events in
          let kept = subst (λ (q : Reply × State). Holds p q.1) e (step_keeps p ok s held (Route n)) in
          let more = room s.numbers (s.events + 1) numbers (omega arith) in
          let g = confirms p k t n a.others a.calling (omega arith) in
          let two = g.events in
          let same = g.numbers ∙ a.numbers in
          let u = (step p t (Confirm n)).1 in
          rw a.seized (next (k + 1) u (step_keeps p ok t kept (Confirm n)) g.rest g.stands (omega arith)
          (subst (λ (m : ℕ). m ≤ 2 ^ 32 - 1) (sym same) numbers)
          (subst (λ (m : ℕ). u.events + 2 * j ≤ 4096 + m * each) (sym same) (omega arith)))

  called_rests : (q : Line × Line) (s : State) → Rests s → Rests (called p q s)
  called_rests q s r = by (refusal p s (Key q.0 (full_number p q.1))) refl
    where
      by : (o : Option Refusal) → refusal p s (Key q.0 (full_number p q.1)) ≡ o
          → Rests (goes_on p (unless_refused o s (counted (accepted p s (Key q.0 (full_number p q.1))))).0
          (unless_refused o s (counted (accepted p s (Key q.0 (full_number p q.1))))).1)
      by (Some x) e = r
      by None e =
          let new = keyed_call (s.numbers + 1) q.0 (full_number p q.1) (s.events + 1) in
          let few = can_key p s q.0 (full_number p q.1) e in
          let events = r.events in
          let next : (s.numbers + 1) * each ≡ s.numbers * each + each = omega (arith, add-mul s.numbers 1 each) in
          goes (s.numbers + 1) (most_circuits p) 0 (counted (accepted p s (Key q.0 (full_number p q.1)))).1
          (accepted_keeps p ok s r.held (Key q.0 (full_number p q.1)) e)
          (λ c m other. elim (among_cases c s.calls (new ∷ []) m) [
            | inl o ↦ r.all c o
            | inr i ↦ elim i [
              | inl f ↦ absurd (other (ap (λ (z : Call). z.number) (sym f)))
              | inr b ↦ absurd b
            ]
          ])
          (λ c m is. elim (among_cases c s.calls (new ∷ []) m) [
            | inl o ↦ (let l = r.held.given c o in absurd (omega arith))
            | inr i ↦ elim i [
              | inl f ↦ subst (StandsAfter 0) f (refl, refl)
              | inr b ↦ absurd b
            ]
          ])
          (omega arith) (omega arith) (omega arith)

  filled_rests : (pairs : List (Line × Line)) (s : State) → Rests s → Rests (filled p pairs s)
  unfolding filled
  filled_rests [] s r = r
  filled_rests (q ∷ pairs) s r =
      let next = called p q s in
      let here = called_rests q s r in
      elim (length next.tickets == 0) as (λ b. Rests (if b then filled p pairs next else next)) [
        | true ↦ filled_rests pairs next here
        | false ↦ here
      ]

  -- groups are blocked: no more than there are
  record Begun (bs : List ℕ) (s : State) : Type 0 where
    held : Holds p s
    none : s.calls ≡ []
    numbers : s.numbers ≡ 0
    events : s.events ≡ length bs
    apart : AllDiffer bs
    within : (g : ℕ) → Among g bs → g < length p.groups
    blocked : (g : ℕ) → Among g bs → set.contains s.blocked g ≡ true

  one_blocked : (g : ℕ) (s : State) (bs : List ℕ) → Begun bs s
      → (cs : List ℕ) × Begun cs (step p s (Block g)).1
  one_blocked g s bs b = by (refusal p s (Block g)) refl
    where
      by : (o : Option Refusal) → refusal p s (Block g) ≡ o
          → (cs : List ℕ) × Begun cs (unless_refused o s (counted (accepted p s (Block g)))).1
      by (Some x) r = (bs, b)
      by None r =
          let t = tests_false (refusals p s (Block g) ++ (nat_le (2 ^ 64 - 1) s.events, Exhausted) ∷ []) r in
          let fresh : set.contains s.blocked g ≡ false =
          ap (λ k. k && set.contains s.blocked g) (sym (not-false (is_group p g) t.1.0)) ∙ t.0 in
          let count = b.events in (
            g ∷ bs,
            record {
              held = b.held;
              none = b.none;
              numbers = b.numbers;
              events = omega arith;
              apart = (
                all_from_mem (λ m. g ≢ m) bs (λ m i e. both_ways (set.contains s.blocked g) fresh
                    (ap (set.contains s.blocked) e ∙ b.blocked m i)),
                b.apart,
              );
              within = λ h m. elim m [
                | inl e ↦ subst (λ (z : ℕ). z < length p.groups) e (group_within p g t.1.0)
                | inr i ↦ b.within h i
              ];
              blocked = λ h m. set.contains-insert nat_cmp_total s.blocked g h ∙ (elim m [
                | inl e ↦ or_left (eq_by_cmp nat_cmp h g) (set.contains s.blocked h)
                    (subst (λ (z : ℕ). eq_by_cmp nat_cmp z g ≡ true) e ((eq_by_cmp_equiv nat_cmp_total).refl g))
                | inr i ↦ or_right (eq_by_cmp nat_cmp h g) (set.contains s.blocked h) (b.blocked h i)
              ]);
            },
          )

  all_blocked : (gs : List ℕ) (s : State) (bs : List ℕ) → Begun bs s
      → (cs : List ℕ) × Begun cs (state_after p s (map Block gs))
  all_blocked [] s bs b = (bs, b)
  all_blocked (g ∷ gs) s bs b =
      let next = one_blocked g s bs b in
      all_blocked gs (step p s (Block g)).1 next.0 next.1

  pub all_connected : (down : List ℕ) (x c : ℕ)
      → AllByRecursion (λ k. is_connected k.phase ≡ true) (fill_state p down x c).calls
  all_connected down x c =
      let s = state_after p (opening 0 0) (map Block down) in
      let begun = all_blocked down (opening 0 0) [] (record {
        held = inv_opening p 0;
        none = refl;
        numbers = refl;
        events = refl;
        apart = tt;
        within = λ g m. absurd m;
        blocked = λ g m. absurd m;
      }) in
      let b = begun.1 in
      let few = length-le_from_distinct_below begun.0 (length p.groups) (all_distinct begun.0 b.apart)
      (λ q h. b.within q (any_among q begun.0 h)) in
      let groups = ok.few_groups in
      let numbers = b.numbers in
      let events = b.events in
      let r = filled_rests (line_pairs p x c) s (record {
        held = b.held;
        all = subst AreConnected (sym b.none) (λ k m. absurd m);
        numbers = omega arith;
        events = omega arith;
      }) in
      all_from_mem (λ (k : Call). is_connected k.phase ≡ true) (fill_state p down x c).calls r.all
