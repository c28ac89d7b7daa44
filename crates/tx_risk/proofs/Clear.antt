-- No call goes over a group that is down.
use Rattle.tx_risk.proofs.Common.{◌≡◌, ℕ, ◌==◌, Bool, true, false, ◌&&◌, List, [], ◌∷◌, ◌++◌, ◌⊎◌, inl, inr, map, Option, Some, None, refl, sym, ap, ◌∙◌, subst, both_ways, ne_eqb, false_from_ne_true, if◌then◌else◌, find, filter, list_any, Plan, home_of, code_of, route_list, is_barred, Among, among_cases, filter_among, among_left, among_right, among_map, map_among, Circuit, Line, Event, Key, Route, Confirm, Clear, Released, Fail, Restore, Block, Unblock, CircuitOut, CircuitIn, LineFault, LineMend, LineAway, LineBack, Hop, Service, Na, Refusal, Reply, Answered, Standing, Calling, Connected, State, line_answer, refusal, with_call, accepted, counted, unless_refused, step, Holds, Moves, stays, connects, seizes_one, goes_on, falls_back, IsNew, came, Risk, IsClear, AllDown}
use Rattle.tx_plan.specs.Circuits.{circuits_at}
use Rattle.tx_machine.specs.declared.cause.Cause.TheVariants.{Service as ByService}
use Rattle.tx_machine.specs.Call.{Call, exchange_of, call_of, is_numbered, is_first, circuit_called}
use Rattle.tx_machine.specs.InUse.{circuits_carried, circuits_used, is_down, is_free_at, first_free, choice}
use Rattle.tx_machine.specs.Routing.{in_phase, at_line, at_trunk, line_of, routed_for}
use Rattle.tx_machine.specs.Confirming.{carried_on, thrown_back, far_of}
use Rattle.tx_machine.specs.Ending.{end_calls}
use Rattle.tx_machine.proofs.Lists.{find_mem, none_any, any_none}
use Rattle.tx_machine.proofs.Uses.{first_in-is, chosen}
use Rattle.tx_machine.proofs.Invariant.{set_cases}
use Rattle.tx_machine.proofs.Steps.{stands}

-- a group is used if one of the circuits is of it
on_group : (g : ℕ) (xs ys : List Circuit) → ((x : Circuit) → Among x ys → Among x xs)
    → list_any (λ x. x.group == g) xs ≡ false → list_any (λ x. x.group == g) ys ≡ false
on_group g xs ys within h =
    any_none (λ x. x.group == g) ys (λ x m. none_any (λ x. x.group == g) xs x h (within x m))

-- a circuit that is found is of a group that is not down
pub up_there : (p : Plan) (s : State) (exchange g : ℕ) (x : Circuit) → first_free p s exchange g ≡ Some x
    → is_down s g ≡ false
up_there p s exchange g x h =
    elim (is_down s g) as
    (λ b. (if b then None else find (is_free_at p s exchange) (circuits_at p g exchange)) ≡ Some x
    → b ≡ false) [
      | true ↦ λ e. let bad : ⊥ = cc in absurd bad
      | false ↦ λ e. refl
    ] h

module _ (risk : Risk) where
  -- a call that uses no other circuits
  fewer : (c d : Call) → ((x : Circuit) → Among x (circuits_used d) → Among x (circuits_used c))
      → IsClear risk c → IsClear risk d
  fewer c d within clear g r = on_group g (circuits_used c) (circuits_used d) within (clear g r)

  module _ (c : Call) where
    as_connected : (l : Line) → IsClear risk c → IsClear risk (in_phase (Connected l) c)
    as_connected l clear =
        fewer c (in_phase (Connected l) c)
        (λ x m. elim (among_cases x (circuits_carried c) [] m) [
          | inl a ↦
              among_left x (circuits_carried c) (circuit_called c.phase) a
          | inr z ↦ absurd z
        ]) clear

    as_calling : (x : Circuit) → risk x.group ≡ false → IsClear risk c
        → IsClear risk (in_phase (Calling x) c)
    as_calling x out clear g r =
        any_none (λ y. y.group == g) (circuits_used (in_phase (Calling x) c))
        (λ y m. elim (among_cases y (circuits_carried c) (x ∷ []) m) [
          | inl a ↦ none_any (λ y. y.group == g) (circuits_used c) y (clear g r)
              (among_left y (circuits_carried c) (circuit_called c.phase) a)
          | inr b ↦ elim b [
            | inl e ↦ subst (λ (z : Circuit). (z.group == g) ≡ false) e
                (ne_eqb x.group g (λ q. both_ways _ out (ap risk q ∙ r)))
            | inr z ↦ absurd z
          ]
        ])

    as_carried : (x : Circuit) (far : ℕ) → c.phase ≡ Calling x → IsClear risk c
        → IsClear risk (carried_on x far c)
    as_carried x far calls clear =
        fewer c (carried_on x far c)
        (λ y m. elim (among_cases y (circuits_carried (carried_on x far c)) [] m) [
          | inl a ↦
              let q = map_among (λ (h : Hop). h.circuit) y
              (c.hops ++ record { circuit = x; far = far } ∷ []) a in
              elim (among_cases q.0 c.hops (record { circuit = x; far = far } ∷ []) q.1) [
                | inl b ↦ among_left y (circuits_carried c) (circuit_called c.phase)
                    (subst (λ z. Among z (circuits_carried c)) q.2
                    (among_map (λ (h : Hop). h.circuit) q.0 c.hops b))
                | inr b ↦ elim b [
                  | inl e ↦ among_right y (circuits_carried c) (circuit_called c.phase)
                      (subst (λ phase. Among y (circuit_called phase)) (sym calls)
                      (inl (ap (λ (h : Hop). h.circuit) e ∙ q.2)))
                  | inr z ↦ absurd z
                ]
              ]
          | inr z ↦ absurd z
        ]) clear

    as_back : (far : Call) → far.hops ≡ c.hops → far.phase ≡ Standing → IsClear risk c
        → IsClear risk far
    as_back d hops phase clear =
        fewer c d (λ y m. elim (among_cases y (circuits_carried d) (circuit_called d.phase) m) [
          | inl a ↦ among_left y (circuits_carried c) (circuit_called c.phase)
              (subst (λ hs. Among y (map (λ (h : Hop). h.circuit) hs)) hops a)
          | inr b ↦ absurd (subst (λ phase. Among y (circuit_called phase)) phase b)
        ]) clear

-- the calls of the numbers that T tells
module _ (p : Plan) (risk : Risk) (T : ℕ → Type 0) (s : State) (h : Holds p s)
    (down : AllDown risk s) where
  abbrev pub ClearIf : Call → Type 0
  ClearIf c = T c.number → IsClear risk c

  abbrev pub AllClear : List Call → Type 0
  AllClear cs = (c : Call) → Among c cs → ClearIf c

  module _ (clear : AllClear s.calls) where
    outside : (g exchange : ℕ) (x : Circuit) → x.group ≡ g → first_free p s exchange g ≡ Some x
        → risk x.group ≡ false
    outside g exchange x e f =
        false_from_ne_true _
        (λ r. both_ways _ (up_there p s exchange g x f) (ap (is_down s) (sym e) ∙ down x.group r))

    ended : (keeps : Call → Bool) → AllClear (filter keeps s.calls)
    ended keeps c m = clear c (filter_among keeps c s.calls m).0

    module _ (c : Call) (m : Among c s.calls) where
      line_clear : (l : Line) (o : Option Service) → AllClear (at_line p s c l o).1.calls
      line_clear l None d md =
          elim (set_cases p s.calls s.releasing s.numbers h c m (in_phase (Connected l)) d md) [
            | inl o ↦ clear d o.0
            | inr q ↦ subst ClearIf q (λ t. as_connected risk c l (clear c m t))
          ]
      line_clear l (Some service) d md = ended _ d md

      trunk_clear : (code : ℕ) (o : Option Circuit) → choice p s (exchange_of p c) code ≡ o
          → AllClear (at_trunk p s c o).1.calls
      trunk_clear code None a d md = ended _ d md
      trunk_clear code (Some x) a d md =
          let r = first_in-is (first_free p s (exchange_of p c)) (route_list p (exchange_of p c) code) x
          a in
          let f = chosen p s (exchange_of p c) r.0 x r.2 in
          elim (set_cases p s.calls s.releasing s.numbers h c m (in_phase (Calling x)) d md) [
            | inl o ↦ clear d o.0
            | inr q ↦ subst ClearIf q
                (λ t. as_calling risk c x (outside r.0 (exchange_of p c) x f.group r.2) (clear c m t))
          ]

      route_clear : (o : Option ℕ) → AllClear (routed_for p s c o).1.calls
      route_clear None = λ d md. ended _ d md
      route_clear (Some code) =
          elim (is_first c.hops && is_barred p (exchange_of p c) code)
          as (λ b. AllClear (if b then answer Na else if home_of p code == exchange_of p c then
          line else trunk).1.calls) [
            | true ↦ λ d md. ended _ d md
            | false ↦ elim (home_of p code == exchange_of p c)
                as (λ b. AllClear (if b then line else trunk).1.calls) [
                  | true ↦ line_clear (line_of p code c.keyed)
                      (line_answer p s (line_of p code c.keyed))
                  | false ↦ trunk_clear code _ refl
                ]
          ]
        where
          answer : Service → Reply × State
          answer service = (
            Answered service,
            end_calls p (ByService service)
                (is_numbered c.number) s,
          )

          line : Reply × State
          line = at_line p s c (line_of p code c.keyed) (line_answer p s (line_of p code c.keyed))

          trunk : Reply × State
          trunk = at_trunk p s c (choice p s (exchange_of p c) code)

    routed_clear : (n : ℕ) → AllClear (accepted p s (Route n)).1.calls
    routed_clear n = at (call_of n s.calls) refl
      where
        at : (o : Option Call) → call_of n s.calls ≡ o
            → AllClear (with_call o s (λ c. routed_for p s c (code_of p c.keyed))).1.calls
        at None e = clear
        at (Some c) e = route_clear c (find_mem (λ c. c.number == n) s.calls c e).0
            (code_of p c.keyed)

    -- no route event
    abbrev NotRoute : Event → Type 0
    NotRoute e = (n : ℕ) → e ≡ Route n → ⊥

    moves_clear : (e : Event) → NotRoute e → (c c' : Call) → ClearIf c → Moves p e c c' → ClearIf c'
    moves_clear e other c c' k (stays q) = subst ClearIf q k
    moves_clear e other c c' k (connects l event stands q) = absurd (other c.number event)
    moves_clear e other c c' k (seizes_one x code event stands keyed open' away listed q) =
        absurd (other c.number event)
    moves_clear e other c c' k (goes_on x calls q) =
        subst ClearIf q (λ t. as_carried risk c x (far_of p c x) calls (k t))
    moves_clear e other c c' k (falls_back x calls first q) =
        subst ClearIf q (λ t. as_back risk c (thrown_back c) refl refl (k t))

    new_clear : (e : Event) (c : Call) → IsNew p s.numbers e c → ClearIf c
    new_clear e c new = subst ClearIf new.call (λ t g r. refl)

    not_routed : (e : Event) → NotRoute e → AllClear (step p s e).1.calls
    not_routed e other c m = elim (came p s h e c m) [
      | inl (b, mb, moves) ↦ moves_clear e other b c (clear b mb) moves
      | inr new ↦ new_clear e c new
    ]

    is_route : (e : Event) → ((n : ℕ) × (e ≡ Route n)) ⊎ NotRoute e
    is_route (Route n) = inl (n, refl)
    is_route (Key line keyed) = inr (λ n e. cc)
    is_route (Confirm m) = inr (λ n e. cc)
    is_route (Clear m party) = inr (λ n e. cc)
    is_route (Released x) = inr (λ n e. cc)
    is_route (Fail g) = inr (λ n e. cc)
    is_route (Restore g) = inr (λ n e. cc)
    is_route (Block g) = inr (λ n e. cc)
    is_route (Unblock g) = inr (λ n e. cc)
    is_route (CircuitOut x) = inr (λ n e. cc)
    is_route (CircuitIn x) = inr (λ n e. cc)
    is_route (LineFault l) = inr (λ n e. cc)
    is_route (LineMend l) = inr (λ n e. cc)
    is_route (LineAway l) = inr (λ n e. cc)
    is_route (LineBack l) = inr (λ n e. cc)

    -- while all groups of the risk are down, a call that uses none of them comes to use none
    pub step_clear : (e : Event) → AllClear (step p s e).1.calls
    step_clear e = elim (is_route e) [
      | inl (n, q) ↦ subst (λ e. AllClear (step p s e).1.calls) (sym q)
          (at n (refusal p s (Route n)))
      | inr other ↦ not_routed e other
    ]
      where
        at : (n : ℕ) (o : Option Refusal)
            → AllClear (unless_refused o s (counted (accepted p s (Route n)))).1.calls
        at n (Some r) = clear
        at n None = routed_clear n
