-- Calls from where a risk does not cut off their code get through.
use Rattle.tx_risk.proofs.Common.{◌≡◌, ℕ, ◌<◌, ◌==◌, true, false, not, cond, ◌&&◌, List, [], ◌∷◌, inl, inr, Option, Some, None, refl, sym, ap, ◌∙◌, subst, eqb-true, eq-eqb, arith, false≢true, both_ways, eqb-false, not-true, not-false, false_from_ne_true, if◌then◌else◌, is_some, AllByRecursion, Plan, home_of, IsPlan, code_of, route_list, is_barred, Among, filter_among, among_left, among_map, Circuit, Line, Event, Key, Route, Confirm, Clear, Released, Fail, Restore, Block, Unblock, CircuitOut, CircuitIn, LineFault, LineMend, LineAway, LineBack, Hop, Phase, Standing, Calling, Connected, Service, Refusal, Reply, Answered, Call, call_of, start_of, exchange_of, is_first, circuit_called, State, opening, refusal, answered, at_line, at_trunk, line_of, routed_for, confirmed_by, rival, confirmed, far_of, with_call, accepted, counted, unless_refused, step, Holds, find_mem, none_any, inv_opening, step_keeps, Risk, left_of}
use Rattle.std.specs.FinSet as set
use Rattle.tx_plan.specs.Lines.{is_line}
use Rattle.tx_machine.specs.declared.cause.Service.TheVariants.{Occ, Np, Der, Abs, Na}
use Rattle.tx_machine.specs.InUse.{circuits_carried, circuits_used, first_free, choice, seizes_from}
use Rattle.tx_machine.specs.Lines.{is_engaged, line_answer}
use Rattle.tx_machine.specs.Runs.{run, state_after, OfEveryEvent}
use Rattle.tx_machine.specs.Excused.{HadCollided, IsNcByCollision}
use Rattle.tx_machine.proofs.Uses.{first_in-none}
use Rattle.tx_risk.specs.Served.{OfRouted, StartsUncut, OutsideFree, IsClear, AllDown, AllFailed, NoneOnFailed, KeyedSinceAreClear, KeyedSinceGetThrough}
use Rattle.tx_risk.proofs.Ways.{no_dead_end}
use Rattle.tx_risk.proofs.Listed.{AllListed, step_listed, steps_of, end_steps, goes_outside}
use Rattle.tx_risk.proofs.Clear.{step_clear}
use Rattle.tx_risk.proofs.Failed.{none_first, step_failed}

-- a call is found by its number
found : (cs : List Call) (c : Call) → Among c cs → ((d : Call) → Among d cs → d.number ≡ c.number
    → d ≡ c) → call_of c.number cs ≡ Some c
found [] c m one = elim m [ ]
found (d ∷ cs) c m one =
    elim (d.number == c.number) as (λ b. (d.number == c.number) ≡ b
    → (cond b (Some d) (call_of c.number cs)) ≡ Some c) [
      | true ↦ λ t. ap Some (one d (inl refl) (eqb-true _ _ t))
      | false ↦ λ t. elim m [
        | inl e ↦
            absurd (eqb-false _ _ t (ap (λ (z : Call). z.number) e))
        | inr m ↦
            found cs c m (λ d m. one d (inr m))
      ]
    ] refl

-- no line answers NC
line_fine : (p : Plan) (s : State) (l : Line) (service : Service) → line_answer p s l ≡ Some service
    → IsNcByCollision s (Answered service)
line_fine p s l service h =
    elim (is_line p l) as
    (λ a. (if not a then Some Np else if set.contains s.faulty l then Some Der else if
    set.contains s.away l then Some Abs else if is_engaged s l then Some Occ else None)
    ≡ Some service → IsNcByCollision s (Answered service)) [
      | false ↦ λ e. by Np (cc) tt
      | true ↦ elim (set.contains s.faulty l)
          as (λ b. (if b then Some Der else if set.contains s.away l then Some Abs else if
          is_engaged s l then Some Occ else None) ≡ Some service
          → IsNcByCollision s (Answered service)) [
            | true ↦ λ e. by Der (cc) tt
            | false ↦ elim (set.contains s.away l)
                as (λ b. (if b then Some Abs else if is_engaged s l then Some Occ else None)
                ≡ Some service → IsNcByCollision s (Answered service)) [
                  | true ↦ λ e. by Abs (cc) tt
                  | false ↦ elim (is_engaged s l)
                      as (λ b. (if b then Some Occ else None) ≡ Some service
                      → IsNcByCollision s (Answered service)) [
                        | true ↦ λ e. by Occ (cc) tt
                        | false ↦
                            λ e. let bad : ⊥ = cc in absurd bad
                      ]
                ]
          ]
    ] h
  where
    by : (other : Service) → other ≡ service → IsNcByCollision s (Answered other)
        → IsNcByCollision s (Answered service)
    by other e u = subst (λ service. IsNcByCollision s (Answered service)) e u

module _ (p : Plan) (risk : Risk) (s : State) (h : Holds p s) (listed : AllListed p s.calls) where
  -- where it stands there is a group that it may try, and one has a circuit
  module _ (c : Call) (m : Among c s.calls) (clear : IsClear risk c) (uncut : StartsUncut p risk c)
      (free : OutsideFree p risk s c) where
    hop_clear : (k : Hop) → Among k c.hops → risk k.circuit.group ≡ false
    hop_clear k i = false_from_ne_true _ (λ r.
        both_ways _ (none_any (λ x. x.group == k.circuit.group) (circuits_used c) k.circuit
        (clear k.circuit.group r)
        (among_left k.circuit (circuits_carried c) (circuit_called c.phase)
        (among_map (λ (h : Hop). h.circuit) k c.hops i)))
        (eq-eqb k.circuit.group k.circuit.group refl))

    some_there : (code : ℕ) → code_of p c.keyed ≡ Some code → (home_of p code == exchange_of p c)
        ≡ false → choice p s (exchange_of p c) code ≡ None → ⊥
    some_there code k away none = at (left_of risk (route_list p (exchange_of p c) code)) refl
      where
        exchange : ℕ
        exchange = exchange_of p c

        at : (left : List ℕ) → left_of risk (route_list p (exchange_of p c) code) ≡ left → ⊥
        at [] e =
            let q = end_steps (start_of p c) c.hops in
            no_dead_end p risk code (start_of p c) (steps_of c.hops) (uncut code k) (record {
              goes = goes_outside p risk code (start_of p c) c.hops ((listed c m).hops code k)
                  (h.each c m).joined hop_clear;
              away = λ z. eqb-false _ _ away (sym z ∙ q);
              none = ap (λ x. left_of risk (route_list p x code)) q ∙ e;
            })
        at (g ∷ gs) e =
            let a = filter_among (λ g. not (risk g)) g (route_list p (exchange_of p c) code)
            (subst (Among g) (sym e) (inl refl)) in
            let none' = first_in-none (first_free p s (exchange_of p c))
            (route_list p (exchange_of p c) code) g none a.0 in
            false≢true (sym (ap is_some none') ∙ free code g k a.0 (not-true _ a.1))

  module _ (n : ℕ) (c : Call) (m : Among c s.calls) (here : call_of n s.calls ≡ Some c) where
    line_reply : (l : Line) (o : Option Service) → line_answer p s l ≡ o
        → IsNcByCollision s (at_line p s c l o).0
    line_reply l None e = tt
    line_reply l (Some service) e = line_fine p s l service e

    trunk_reply : (IsClear risk c × StartsUncut p risk c × OutsideFree p risk s c) → (code : ℕ)
        → code_of p c.keyed ≡ Some code → (home_of p code == exchange_of p c) ≡ false
        → (o : Option Circuit) → choice p s (exchange_of p c) code ≡ o
        → IsNcByCollision s (at_trunk p s c o).0
    trunk_reply f code k away (Some x) a = tt
    trunk_reply f code k away None a = absurd (some_there c m f.0 f.1 f.2 code k away a)

    route_reply : (IsClear risk c × StartsUncut p risk c × OutsideFree p risk s c) → (o : Option ℕ)
        → code_of p c.keyed ≡ o → IsNcByCollision s (routed_for p s c o).0
    route_reply f None e = tt
    route_reply f (Some code) e =
        elim (is_first c.hops && is_barred p (exchange_of p c) code)
        as (λ b. IsNcByCollision s
        (if b then answer else if home_of p code == exchange_of p c then line else trunk).0) [
          | true ↦ tt
          | false ↦ elim (home_of p code == exchange_of p c)
              as (λ b. (home_of p code == exchange_of p c) ≡ b
              → IsNcByCollision s (if b then line else trunk).0) [
                | true ↦ λ q. line_reply (line_of p code c.keyed) _ refl
                | false ↦ λ q. trunk_reply f code e q _ refl
              ] refl
        ]
      where
        answer : Reply × State
        answer = answered p c.number Na s

        line : Reply × State
        line = at_line p s c (line_of p code c.keyed) (line_answer p s (line_of p code c.keyed))

        trunk : Reply × State
        trunk = at_trunk p s c (choice p s (exchange_of p c) code)

    had : (d : Call) → Among d s.calls → not d.collided ≡ false → HadCollided s d.number
    had d m e = record {
      call = d;
      open' = found s.calls d m (λ k i q. h.one k d i m q);
      collided = not-false _ e;
    }

    meet_reply : (x : Circuit) (o : Option Call) → rival p s c x ≡ o
        → IsNcByCollision s (confirmed_by p s c x o).0
    meet_reply x None e = tt
    meet_reply x (Some d) e = (
      had c m,
      had d (find_mem (λ d. not (d.number == c.number) && seizes_from p d x
          (far_of p c x)) s.calls d e).0,
    )

    confirm_reply : (phase : Phase) → IsNcByCollision s (confirmed p s c phase).0
    confirm_reply Standing = tt
    confirm_reply (Calling x) = meet_reply x _ refl
    confirm_reply (Connected l) = tt

  with_reply : (n : ℕ) (act : Call → Reply × State)
      → ((c : Call) → Among c s.calls → call_of n s.calls ≡ Some c → IsNcByCollision s (act c).0)
      → IsNcByCollision s (with_call (call_of n s.calls) s act).0
  with_reply n act each = at (call_of n s.calls) refl
    where
      at : (o : Option Call) → call_of n s.calls ≡ o → IsNcByCollision s (with_call o s act).0
      at None q = tt
      at (Some c) q = each c (find_mem (λ c. c.number == n) s.calls c q).0 q

  abbrev pub Fine : Event → Type 0
  Fine e = OfRouted s e (λ c. IsClear risk c × StartsUncut p risk c × OutsideFree p risk s c)

  accepted_reply : (e : Event) → Fine e → IsNcByCollision s (accepted p s e).0
  accepted_reply (Key line keyed) f = tt
  accepted_reply (Route n) f = with_reply n _ (λ c m q. route_reply n c m q (f n c refl q) _ refl)
  accepted_reply (Confirm n) f = with_reply n _ (λ c m q. confirm_reply n c m q c.phase)
  accepted_reply (Clear n party) f = tt
  accepted_reply (Released x) f = tt
  accepted_reply (Fail g) f = tt
  accepted_reply (Restore g) f = tt
  accepted_reply (Block g) f = tt
  accepted_reply (Unblock g) f = tt
  accepted_reply (CircuitOut x) f = tt
  accepted_reply (CircuitIn x) f = tt
  accepted_reply (LineFault l) f = tt
  accepted_reply (LineMend l) f = tt
  accepted_reply (LineAway l) f = tt
  accepted_reply (LineBack l) f = tt

  pub step_through : (e : Event) → Fine e → IsNcByCollision s (step p s e).0
  step_through e f = at (refusal p s e)
    where
      at : (o : Option Refusal)
          → IsNcByCollision s (unless_refused o s (counted (accepted p s e))).0
      at (Some r) = tt
      at None = accepted_reply e f

module _ (p : Plan) (ok : IsPlan p) (risk : Risk) where
  -- what is kept along a run
  record IsGoing (s : State) : Type 0 where
    holds : Holds p s
    listed : AllListed p s.calls
    none : NoneOnFailed s

  going_on : (s : State) (e : Event) → IsGoing s → IsGoing (step p s e).1
  going_on s e k = record {
    holds = step_keeps p ok s k.holds e;
    listed = step_listed p s k.holds k.listed e;
    none = step_failed p s k.holds k.none e;
  }

  going_first : (numbers count : ℕ) → IsGoing (opening numbers count)
  going_first numbers count = record {
    holds = inv_opening p numbers;
    listed = λ c m. absurd m;
    none = none_first p ok numbers count;
  }

  going_after : (s : State) (events : List Event) → IsGoing s → IsGoing (state_after p s events)
  going_after s [] k = k
  going_after s (e ∷ events) k = going_after (step p s e).1 events (going_on s e k)

  module _ (Q : State → Event → Reply → Type 0) (each : (s : State) (e : Event) → IsGoing s
      → Q s e (step p s e).0) where
    of_events : (s : State) → IsGoing s → (events : List Event)
        → AllByRecursion (λ m. Q m.before m.event m.reply) (run p s events)
    of_events s k [] = tt
    of_events s k (e ∷ events) = (each s e k, of_events (step p s e).1 (going_on s e k) events)

    of_runs : OfEveryEvent p Q
    of_runs numbers count events =
        of_events (opening numbers count) (going_first numbers count) events

  pub clear_through : OfEveryEvent p
      (λ s e r. OfRouted s e (λ c. IsClear risk c × StartsUncut p risk c × OutsideFree p risk s c)
      → IsNcByCollision s r)
  clear_through = of_runs _ (λ s e k f. step_through p risk s k.holds k.listed e f)

  pub failed_through : OfEveryEvent p (λ s e r. AllFailed risk s
      → OfRouted s e (λ c. StartsUncut p risk c × OutsideFree p risk s c) → IsNcByCollision s r)
  failed_through = of_runs _ (λ s e k failed f. step_through p risk s k.holds k.listed e
      (λ n c q here.
      let a = f n c q here in
      (λ g r. k.none g (failed g r) c (find_mem (λ c. c.number == n) s.calls c here).0, a.0, a.1)))

  -- KEYED SINCE
  module _ (T : ℕ → Type 0) where
    clear_after : (s : State) → IsGoing s → AllDown risk s
        → (clear : (c : Call) → Among c s.calls → T c.number → IsClear risk c)
        → (since : List Event) → AllByRecursion (λ m. AllDown risk m.after) (run p s since)
        → (c : Call) → Among c (state_after p s since).calls → T c.number → IsClear risk c
    clear_after s k down clear [] later = clear
    clear_after s k down clear (e ∷ since) later =
        clear_after (step p s e).1 (going_on s e k) later.0
        (step_clear p risk T s k.holds down clear e) since later.1

  pub since_clear : KeyedSinceAreClear p risk
  since_clear numbers count before since d c m new =
      let s = state_after p (opening numbers count) before in
      let k = going_after (opening numbers count) before (going_first numbers count) in
      clear_after (λ n. s.numbers < n) s k d.first
      (λ c m l. absurd (let g = k.holds.given c m in omega arith)) since d.later c m new

  pub since_through : KeyedSinceGetThrough p risk
  since_through numbers count before since d e f =
      let s = state_after p (opening numbers count) before in
      let t = state_after p s since in
      let k = going_after s since
      (going_after (opening numbers count) before (going_first numbers count)) in
      step_through p risk t k.holds k.listed e (λ n c q here.
      let a = f n c q here in (
        since_clear numbers count before since d c (find_mem (λ c. c.number == n) t.calls c here).0
            a.0,
        a.1,
        a.2,
      ))
