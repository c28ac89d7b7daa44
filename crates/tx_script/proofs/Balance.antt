-- An event opens at most one call, and a call that ends leaves one ticket.
use Rattle.tx_script.proofs.Common.{◌≡◌, ℕ, ◌+◌, ◌≤◌, ◌==◌, Bool, true, false, not, ◌&&◌, [], ◌∷◌, length, map, Option, Some, None, refl, ap, ◌∙◌, arith, length-append, if◌then◌else◌, filter, Plan, home_of, code_of, is_barred, Circuit, Line, Event, Key, Route, Confirm, Clear, Released, Fail, Restore, Block, Unblock, CircuitOut, CircuitIn, LineFault, LineMend, LineAway, LineBack, Service, Nc, Np, Na, Cause, Refusal, Reply, Phase, Standing, Calling, Connected, Call, exchange_of, call_of, is_numbered, is_first, State, choice, uses_group, line_answer, refusal, collide, second_time, confirmed_by, rival, confirmed, keyed_call, with_call, accepted, counted, unless_refused, step, cause_by}
use Rattle.std.proofs.lemmas.List.{length-map}
use Rattle.std.proofs.lemmas.List.Filters.{length-filter_both}
use Rattle.tx_machine.specs.declared.cause.Cause.TheVariants.{Service as ByService, Lost as ByLoss}
use Rattle.tx_machine.specs.Ending.{end_calls, ticket_of}
use Rattle.tx_machine.specs.Routing.{at_line, at_trunk, line_of, routed_for}

-- the open calls, and the tickets of those that ended
abbrev pub parties : State → ℕ
parties s = length s.calls + length s.tickets

-- nothing came and nothing went
abbrev Keeps : State → Reply × State → Type 0
Keeps s r = parties r.1 ≡ parties s

ended : (p : Plan) (s : State) (cause : Cause) (ends : Call → Bool) → parties (end_calls p cause ends s) ≡ parties s
ended p s cause ends =
    let both = length-filter_both ends (λ c. not (ends c)) (λ c. refl) s.calls in
    let made = length-map (filter ends s.calls) (ticket_of p cause (s.events + 1)) in
    let all = length-append s.tickets (map (ticket_of p cause (s.events + 1)) (filter ends s.calls)) in
    omega arith

module _ (p : Plan) (s : State) where
  module _ (c : Call) where
    line_keeps : (l : Line) (o : Option Service) → Keeps s (at_line p s c l o)
    line_keeps l None = ap (λ n. n + length s.tickets) (length-map s.calls _)
    line_keeps l (Some service) = ended p s (ByService service) (is_numbered c.number)

    trunk_keeps : (o : Option Circuit) → Keeps s (at_trunk p s c o)
    trunk_keeps None = ended p s (ByService Nc) (is_numbered c.number)
    trunk_keeps (Some x) = ap (λ n. n + length s.tickets) (length-map s.calls _)

    pick : (a b : Bool) (x y z : Reply × State) → Keeps s x → Keeps s y → Keeps s z → Keeps s (if a then x else if b then y else z)
    pick true b x y z hx hy hz = hx
    pick false true x y z hx hy hz = hy
    pick false false x y z hx hy hz = hz

    route_keeps : (o : Option ℕ) → Keeps s (routed_for p s c o)
    route_keeps None = ended p s (ByService Np) (is_numbered c.number)
    route_keeps (Some code) = pick (is_first c.hops && is_barred p (exchange_of p c) code) (home_of p code == exchange_of p c) _ _ _ (ended p s (ByService Na) (is_numbered c.number)) (line_keeps (line_of p code c.keyed) (line_answer p s (line_of p code c.keyed))) (trunk_keeps (choice p s (exchange_of p c) code))

    meet_keeps : (x : Circuit) (o : Option Call) → Keeps s (confirmed_by p s c x o)
    meet_keeps x None = ap (λ n. n + length s.tickets) (length-map s.calls _)
    meet_keeps x (Some d) = ended p (collide c.number d.number x s) (ByService Nc) (second_time c d) ∙ ap (λ n. n + length s.tickets) (length-map s.calls _)

    confirm_keeps : (phase : Phase) → Keeps s (confirmed p s c phase)
    confirm_keeps Standing = refl
    confirm_keeps (Calling x) = meet_keeps x (rival p s c x)
    confirm_keeps (Connected l) = refl

  with_keeps : (o : Option Call) (act : Call → Reply × State) → ((c : Call) → Keeps s (act c)) → Keeps s (with_call o s act)
  with_keeps None act h = refl
  with_keeps (Some c) act h = h c

  kept : (r : Reply × State) → Keeps s r → parties r.1 ≤ parties s + 1
  kept r h = omega arith

  accepted_within : (e : Event) → parties (accepted p s e).1 ≤ parties s + 1
  accepted_within (Key line keyed) = let l = length-append s.calls (keyed_call (s.numbers + 1) line keyed (s.events + 1) ∷ []) in omega arith
  accepted_within (Route n) = kept (accepted p s (Route n)) (with_keeps (call_of n s.calls) _ (λ c. route_keeps c (code_of p c.keyed)))
  accepted_within (Confirm n) = kept (accepted p s (Confirm n)) (with_keeps (call_of n s.calls) _ (λ c. confirm_keeps c c.phase))
  accepted_within (Clear n party) = kept (accepted p s (Clear n party)) (ended p s (cause_by party) (is_numbered n))
  accepted_within (Fail g) = kept (accepted p s (Fail g)) (ended p s ByLoss (uses_group g))
  accepted_within (Released x) = omega arith
  accepted_within (Restore g) = omega arith
  accepted_within (Block g) = omega arith
  accepted_within (Unblock g) = omega arith
  accepted_within (CircuitOut x) = omega arith
  accepted_within (CircuitIn x) = omega arith
  accepted_within (LineFault l) = omega arith
  accepted_within (LineMend l) = omega arith
  accepted_within (LineAway l) = omega arith
  accepted_within (LineBack l) = omega arith

  unless_within : (o : Option Refusal) (r : Reply × State) → parties r.1 ≤ parties s + 1 → parties (unless_refused o s (counted r)).1 ≤ parties s + 1
  unless_within (Some refused) r h = omega arith
  unless_within None r h = h

-- one event opens at most one call more than it ends
pub step_within : (p : Plan) (s : State) (e : Event) → parties (step p s e).1 ≤ parties s + 1
step_within p s e = unless_within p s (refusal p s e) (accepted p s e) (accepted_within p s e)
