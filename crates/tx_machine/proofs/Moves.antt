-- What one step may do to one call. All that is claimed of calls one by one follows from this.
use Rattle.tx_machine.proofs.Common.{◌≡◌, ℕ, ◌+◌, ◌==◌, Bool, true, false, not, ◌&&◌, ◌||◌, List, [], ◌∷◌, ◌++◌, ◌⊎◌, inl, inr, Option, Some, None, refl, sym, ap, ◌∙◌, subst, eqb-true, or_parts, and_parts, not-true, not-false, if◌then◌else◌, Plan, home_of, is_line, code_of, route_list, is_barred, Among, Circuit, Line, among_cases, filter_among, map_among, Event, Key, Route, Confirm, Clear, Released, Fail, Restore, Block, Unblock, CircuitOut, CircuitIn, LineFault, LineMend, LineAway, LineBack, Service, Nc, Np, Na, Cause, Refusal, Reply, Answered, Phase, Standing, Calling, Connected, Call, exchange_of, call_of, is_standing, is_numbered, is_first, State, first_free, choice, uses_group, seizes, seizes_from, line_answer, is_other, refusals, refusal, set_call, in_phase, at_line, at_trunk, line_of, routed_for, end_calls, far_of, carried_on, thrown_back, collide, second_time, confirmed_by, rival, confirmed, keyed_call, with_call, accepted, counted, unless_refused, step, cause_by, Holds}
use Rattle.tx_machine.specs.declared.cause.Cause.TheVariants.{Service as ByService, Lost as ByLoss}
use Rattle.tx_machine.proofs.Lists.{find_mem}
use Rattle.tx_machine.proofs.Uses.{first_in-is, chosen, calling_on}
use Rattle.tx_machine.proofs.Invariant.{set_cases}
use Rattle.tx_machine.proofs.Steps.{tests_false, stands}

-- from c the step with this event makes c'
pub data Moves (p : Plan) (e : Event) (c c' : Call) : Type 0 where
  stays : c ≡ c' → Moves p e c c'
  connects : (l : Line) → e ≡ Route c.number → c.phase ≡ Standing → in_phase (Connected l) c ≡ c' → Moves p e c c'
  seizes_one : (x : Circuit) (code : ℕ) → e ≡ Route c.number → c.phase ≡ Standing → code_of p c.keyed ≡ Some code → (is_first c.hops && is_barred p (exchange_of p c) code) ≡ false → (home_of p code == exchange_of p c) ≡ false → Among x.group (route_list p (exchange_of p c) code) → in_phase (Calling x) c ≡ c' → Moves p e c c'
  goes_on : (x : Circuit) → c.phase ≡ Calling x → carried_on x (far_of p c x) c ≡ c' → Moves p e c c'
  falls_back : (x : Circuit) → c.phase ≡ Calling x → c.collided ≡ false → thrown_back c ≡ c' → Moves p e c c'

-- a call keeps its number
pub moves_number : (p : Plan) (e : Event) (c c' : Call) → Moves p e c c' → c.number ≡ c'.number
moves_number p e c c' (stays q) = ap (λ (z : Call). z.number) q
moves_number p e c c' (connects l event stands q) = ap (λ (z : Call). z.number) q
moves_number p e c c' (seizes_one x code event stands keyed open' away listed q) = ap (λ (z : Call). z.number) q
moves_number p e c c' (goes_on x calls q) = ap (λ (z : Call). z.number) q
moves_number p e c c' (falls_back x calls first q) = ap (λ (z : Call). z.number) q

pub record IsNew (p : Plan) (numbers : ℕ) (e : Event) (c' : Call) : Type 0 where
  pub line : Line
  pub keyed : List ℕ
  pub event : e ≡ Key line keyed
  pub known : is_line p line ≡ true
  pub keyed_at : ℕ
  pub call : keyed_call (numbers + 1) line keyed keyed_at ≡ c'

abbrev pub CameFrom : Plan → List Call → ℕ → Event → Call → Type 0
CameFrom p calls numbers e c' = ((c : Call) × Among c calls × Moves p e c c') ⊎ IsNew p numbers e c'

abbrev pub Came : Plan → State → Event → Call → Type 0
Came p s e c' = CameFrom p s.calls s.numbers e c'

module _ (p : Plan) (s : State) (h : Holds p s) (e : Event) (c' : Call) where
  same_calls : Among c' s.calls → Came p s e c'
  same_calls m = inl (c', m, stays refl)

  after_end : (cause : Cause) (ends : Call → Bool) → Among c' (end_calls p cause ends s).calls → Came p s e c'
  after_end cause ends m = same_calls (filter_among (λ c. not (ends c)) c' s.calls m).0

  after_set : (c : Call) → Among c s.calls → (f : Call → Call) → (f c ≡ c' → Moves p e c c') → Among c' (set_call c.number f s.calls) → Came p s e c'
  after_set c m f moves m' = elim (set_cases p s.calls s.releasing s.numbers h c m f c' m') [ inl o ↦ same_calls o.0 | inr q ↦ inl (c, m, moves q) ]

  module _ (c : Call) (m : Among c s.calls) where
    after_line : (l : Line) → e ≡ Route c.number → c.phase ≡ Standing → (o : Option Service) → Among c' (at_line p s c l o).1.calls → Came p s e c'
    after_line l q stands None m' = after_set c m (in_phase (Connected l)) (λ i. connects l q stands i) m'
    after_line l q stands (Some service) m' = after_end (ByService service) (is_numbered c.number) m'

    after_trunk : (code : ℕ) → e ≡ Route c.number → c.phase ≡ Standing → code_of p c.keyed ≡ Some code → (is_first c.hops && is_barred p (exchange_of p c) code) ≡ false → (home_of p code == exchange_of p c) ≡ false → (o : Option Circuit) → choice p s (exchange_of p c) code ≡ o → Among c' (at_trunk p s c o).1.calls → Came p s e c'
    after_trunk code q stands keyed open' away None a m' = after_end (ByService Nc) (is_numbered c.number) m'
    after_trunk code q stands keyed open' away (Some x) a m' =
        let r = first_in-is (first_free p s (exchange_of p c)) (route_list p (exchange_of p c) code) x a in
        let f = chosen p s (exchange_of p c) r.0 x r.2 in
        after_set c m (in_phase (Calling x)) (λ i. seizes_one x code q stands keyed open' away (subst (λ z. Among z (route_list p (exchange_of p c) code)) (sym f.group) r.1) i) m'

    after_route : e ≡ Route c.number → c.phase ≡ Standing → (o : Option ℕ) → code_of p c.keyed ≡ o → Among c' (routed_for p s c o).1.calls → Came p s e c'
    after_route q stands None k m' = after_end (ByService Np) (is_numbered c.number) m'
    after_route q stands (Some code) k m' =
        elim (is_first c.hops && is_barred p (exchange_of p c) code) as (λ b. (is_first c.hops && is_barred p (exchange_of p c) code) ≡ b → Among c' (if b then answer Na else if home_of p code == exchange_of p c then line else trunk).1.calls → Came p s e c') [
          | true ↦ λ b m'. after_end (ByService Na) (is_numbered c.number) m'
          | false ↦ λ b m'. elim (home_of p code == exchange_of p c) as (λ b. (home_of p code == exchange_of p c) ≡ b → Among c' (if b then line else trunk).1.calls → Came p s e c') [
            | true ↦ λ here m'. after_line (line_of p code c.keyed) q stands (line_answer p s (line_of p code c.keyed)) m'
            | false ↦ λ away m'. after_trunk code q stands k b away _ refl m'
          ] refl m'
        ] refl m'
      where
        answer : Service → Reply × State
        answer service = (Answered service, end_calls p (ByService service) (is_numbered c.number) s)

        line : Reply × State
        line = at_line p s c (line_of p code c.keyed) (line_answer p s (line_of p code c.keyed))

        trunk : Reply × State
        trunk = at_trunk p s c (choice p s (exchange_of p c) code)

    after_meeting : (x : Circuit) → c.phase ≡ Calling x → (o : Option Call) → rival p s c x ≡ o → Among c' (confirmed_by p s c x o).1.calls → Came p s e c'
    after_meeting x calls None a m' = after_set c m (carried_on x (far_of p c x)) (λ i. goes_on x calls i) m'
    after_meeting x calls (Some d) a m' =
        let r = find_mem (λ d. not (d.number == c.number) && seizes_from p d x (far_of p c x)) s.calls d a in
        let t = and_parts (not (d.number == c.number)) (seizes_from p d x (far_of p c x)) r.1 in
        let f = filter_among (λ k. not (second_time c d k)) c' (collide c.number d.number x s).calls m' in
        let b = map_among (λ k. if is_numbered c.number k || is_numbered d.number k then thrown_back k else k) c' s.calls f.0 in
        thrown d r.0 (calling_on d.phase x (and_parts (seizes d x) (exchange_of p d == far_of p c x) t.1).0) b (not-true _ f.1)
      where
        thrown : (d : Call) → Among d s.calls → d.phase ≡ Calling x → (k : Call) × Among k s.calls × ((if is_numbered c.number k || is_numbered d.number k then thrown_back k else k) ≡ c') → second_time c d c' ≡ false → Came p s e c'
        thrown d md ed (k, mk, i) t =
            elim (is_numbered c.number k) as (λ a. is_numbered c.number k ≡ a → (if a || is_numbered d.number k then thrown_back k else k) ≡ c' → Came p s e c') [
              | true ↦ λ q i.
                  let same = h.one k c mk m (eqb-true _ _ q) in
                  let n : is_numbered c.number c' ≡ true = ap (λ (z : Call). z.number == c.number) (sym i) ∙ q in
                  inl (c, m, falls_back x calls (first_not (is_numbered c.number c') n (or_parts _ _ t).0) (ap thrown_back (sym same) ∙ i))
              | false ↦ λ _. elim (is_numbered d.number k) as (λ a. is_numbered d.number k ≡ a → (if a then thrown_back k else k) ≡ c' → Came p s e c') [
                | true ↦ λ q i.
                    let same = h.one k d mk md (eqb-true _ _ q) in
                    let n : is_numbered d.number c' ≡ true = ap (λ (z : Call). z.number == d.number) (sym i) ∙ q in
                    inl (d, md, falls_back x ed (first_not (is_numbered d.number c') n (or_parts _ _ t).1) (ap thrown_back (sym same) ∙ i))
                | false ↦ λ q i. inl (k, mk, stays i)
              ] refl
            ] refl i
          where
            first_not : (b : Bool) {a : Bool} → b ≡ true → (b && a) ≡ false → a ≡ false
            first_not b {a} t f = ap (λ b. b && a) (sym t) ∙ f

    after_confirm : (phase : Phase) → c.phase ≡ phase → Among c' (confirmed p s c phase).1.calls → Came p s e c'
    after_confirm Standing q m' = same_calls m'
    after_confirm (Calling x) q m' = after_meeting x q _ refl m'
    after_confirm (Connected l) q m' = same_calls m'

  after_with : (n : ℕ) (act : Call → Reply × State) → ((c : Call) → Among c s.calls → call_of n s.calls ≡ Some c → c.number ≡ n → Among c' (act c).1.calls → Came p s e c') → Among c' (with_call (call_of n s.calls) s act).1.calls → Came p s e c'
  after_with n act each m' = at (call_of n s.calls) refl m'
    where
      at : (o : Option Call) → call_of n s.calls ≡ o → Among c' (with_call o s act).1.calls → Came p s e c'
      at None q m' = same_calls m'
      at (Some c) q m' = let f = find_mem (λ c. c.number == n) s.calls c q in each c f.0 q (eqb-true _ _ f.1) m'

pub after_accepted : (p : Plan) (s : State) → Holds p s → (e : Event) → refusal p s e ≡ None → (c' : Call) → Among c' (accepted p s e).1.calls → Came p s e c'
after_accepted p s h (Key line keyed) none c' m =
    let t = tests_false (refusals p s (Key line keyed) ++ _ ∷ []) none in
    elim (among_cases c' s.calls _ m) [
      | inl o ↦ inl (c', o, stays refl)
      | inr q ↦ elim q [ inl i ↦ inr (record { line = line; keyed = keyed; event = refl; known = not-false _ t.0; keyed_at = s.events + 1; call = i }) | inr z ↦ absurd z ]
    ]
after_accepted p s h (Route n) none c' m =
    let t = tests_false (refusals p s (Route n) ++ _ ∷ []) none in
    after_with p s h (Route n) c' n _ (λ c mc q number m. after_route p s h (Route n) c' c mc (ap Route (sym number)) (stands c.phase (subst (λ o. is_other is_standing o ≡ false) q t.1.0)) _ refl m) m
after_accepted p s h (Confirm n) none c' m = after_with p s h (Confirm n) c' n _ (λ c mc q number m. after_confirm p s h (Confirm n) c' c mc _ refl m) m
after_accepted p s h (Clear n party) none c' m = after_end p s h (Clear n party) c' (cause_by party) (is_numbered n) m
after_accepted p s h (Released x) none c' m = inl (c', m, stays refl)
after_accepted p s h (Fail g) none c' m = after_end p s h (Fail g) c' ByLoss (uses_group g) m
after_accepted p s h (Restore g) none c' m = inl (c', m, stays refl)
after_accepted p s h (Block g) none c' m = inl (c', m, stays refl)
after_accepted p s h (Unblock g) none c' m = inl (c', m, stays refl)
after_accepted p s h (CircuitOut x) none c' m = inl (c', m, stays refl)
after_accepted p s h (CircuitIn x) none c' m = inl (c', m, stays refl)
after_accepted p s h (LineFault l) none c' m = inl (c', m, stays refl)
after_accepted p s h (LineMend l) none c' m = inl (c', m, stays refl)
after_accepted p s h (LineAway l) none c' m = inl (c', m, stays refl)
after_accepted p s h (LineBack l) none c' m = inl (c', m, stays refl)

-- each call after a step came from one before it, or is new
pub came : (p : Plan) (s : State) → Holds p s → (e : Event) → (c' : Call) → Among c' (step p s e).1.calls → Came p s e c'
came p s h e c' m = at (refusal p s e) refl m
  where
    at : (o : Option Refusal) → refusal p s e ≡ o → Among c' (unless_refused o s (counted (accepted p s e))).1.calls → Came p s e c'
    at (Some r) q m = inl (c', m, stays refl)
    at None q m = after_accepted p s h e q c' m
