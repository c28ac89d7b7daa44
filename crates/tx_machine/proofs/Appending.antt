-- No reply depends on the tickets not yet taken, and a step only appends tickets.
use Rattle.std.proofs.Common.{◌≡◌, ℕ, ◌+◌, ◌==◌, Bool, true, false, ◌&&◌, List, [], ◌++◌, map, Option, Some, None, refl, sym, ap, append-nil}
use Rattle.tx_machine.proofs.Common.{if◌then◌else◌, filter, Plan, home_of, code_of, is_barred, Circuit, Line, Key, Route, Confirm, Clear, Released, Fail, Restore, Block, Unblock, CircuitOut, CircuitIn, LineFault, LineMend, LineAway, LineBack, Caller, Called, Service, Nc, Np, Na, Cause, Refusal, Reply, Ended, Phase, Standing, Calling, Connected, Call, exchange_of, call_of, is_numbered, is_first, State, choice, uses_group, line_answer, refusal, end_calls, ticket_of, at_line, at_trunk, line_of, routed_for, collide, second_time, confirmed_by, rival, confirmed, with_call, counted, unless_refused, cause_by}
use Rattle.tx_machine.specs.declared.cause.Cause.TheVariants.{Service as ByService, Lost as ByLoss}
use Rattle.tx_machine.specs.declared.reply.Reply.TheVariants.{Answered, Cleared}
use Rattle.tx_machine.specs.Drained.{drained, IsAppending, AppendsTickets}

module _ (p : Plan) (s : State) (ts : List Ended) where
  kept : (reply : Reply) (t : State) → t.tickets ≡ s.tickets → IsAppending s ts (reply, t) (reply, drained t ts)
  kept reply t e = record { reply = refl; made = []; tickets = subst_nil t.tickets s.tickets e; state = ap (drained t) (sym (append-nil ts)) }
    where
      subst_nil : (a b : List Ended) → a ≡ b → a ≡ b ++ []
      subst_nil a b e = cc (append-nil b)

  ended : (reply : Reply) (cause : Cause) (ends : Call → Bool) → IsAppending s ts (reply, end_calls p cause ends s) (reply, end_calls p cause ends (drained s ts))
  ended reply cause ends = record { reply = refl; made = map (ticket_of p cause (s.events + 1)) (filter ends s.calls); tickets = refl; state = refl }

  module _ (c : Call) where
    line_law : (l : Line) (o : Option Service) → IsAppending s ts (at_line p s c l o) (at_line p (drained s ts) c l o)
    line_law l None = kept _ _ refl
    line_law l (Some service) = ended (Answered service) (ByService service) (is_numbered c.number)

    trunk_law : (o : Option Circuit) → IsAppending s ts (at_trunk p s c o) (at_trunk p (drained s ts) c o)
    trunk_law None = ended (Answered Nc) (ByService Nc) (is_numbered c.number)
    trunk_law (Some x) = kept _ _ refl

    pick : (a b : Bool) (x y z x' y' z' : Reply × State) → IsAppending s ts x x' → IsAppending s ts y y' → IsAppending s ts z z' → IsAppending s ts (if a then x else if b then y else z) (if a then x' else if b then y' else z')
    pick true b x y z x' y' z' hx hy hz = hx
    pick false true x y z x' y' z' hx hy hz = hy
    pick false false x y z x' y' z' hx hy hz = hz

    route_law : (o : Option ℕ) → IsAppending s ts (routed_for p s c o) (routed_for p (drained s ts) c o)
    route_law None = ended (Answered Np) (ByService Np) (is_numbered c.number)
    route_law (Some code) = pick (is_first c.hops && is_barred p (exchange_of p c) code) (home_of p code == exchange_of p c) _ _ _ _ _ _ (ended (Answered Na) (ByService Na) (is_numbered c.number)) (line_law (line_of p code c.keyed) (line_answer p s (line_of p code c.keyed))) (trunk_law (choice p s (exchange_of p c) code))

    meet_law : (x : Circuit) (o : Option Call) → IsAppending s ts (confirmed_by p s c x o) (confirmed_by p (drained s ts) c x o)
    meet_law x None = kept _ _ refl
    meet_law x (Some d) = record { reply = refl; made = map (ticket_of p (ByService Nc) (s.events + 1)) (filter (second_time c d) (collide c.number d.number x s).calls); tickets = refl; state = refl }

    confirm_law : (phase : Phase) → IsAppending s ts (confirmed p s c phase) (confirmed p (drained s ts) c phase)
    confirm_law Standing = kept _ _ refl
    confirm_law (Calling x) = meet_law x (rival p s c x)
    confirm_law (Connected l) = kept _ _ refl

  with_law : (o : Option Call) (act act' : Call → Reply × State) → ((c : Call) → IsAppending s ts (act c) (act' c)) → IsAppending s ts (with_call o s act) (with_call o (drained s ts) act')
  with_law None act act' h = kept _ _ refl
  with_law (Some c) act act' h = h c

  stepped : (o : Option Refusal) (r q : Reply × State) → IsAppending s ts r q → IsAppending s ts (unless_refused o s (counted r)) (unless_refused o (drained s ts) (counted q))
  stepped (Some refused) r q h = kept _ _ refl
  stepped None r q h = record { reply = h.reply; made = h.made; tickets = h.tickets; state = ap (λ (t : State). record t { events = t.events + 1 }) h.state }

pub appends : AppendsTickets
appends p s ts (Key line keyed) = stepped p s ts (refusal p s (Key line keyed)) _ _ (kept p s ts _ _ refl)
appends p s ts (Route n) = stepped p s ts (refusal p s (Route n)) _ _ (with_law p s ts (call_of n s.calls) _ _ (λ c. route_law p s ts c (code_of p c.keyed)))
appends p s ts (Confirm n) = stepped p s ts (refusal p s (Confirm n)) _ _ (with_law p s ts (call_of n s.calls) _ _ (λ c. confirm_law p s ts c c.phase))
appends p s ts (Clear n Caller) = stepped p s ts (refusal p s (Clear n Caller)) _ _ (ended p s ts Cleared (cause_by Caller) (is_numbered n))
appends p s ts (Clear n Called) = stepped p s ts (refusal p s (Clear n Called)) _ _ (ended p s ts Cleared (cause_by Called) (is_numbered n))
appends p s ts (Released x) = stepped p s ts (refusal p s (Released x)) _ _ (kept p s ts _ _ refl)
appends p s ts (Fail g) = stepped p s ts (refusal p s (Fail g)) _ _ (record { reply = refl; made = map (ticket_of p ByLoss (s.events + 1)) (filter (uses_group g) s.calls); tickets = refl; state = refl })
appends p s ts (Restore g) = stepped p s ts (refusal p s (Restore g)) _ _ (kept p s ts _ _ refl)
appends p s ts (Block g) = stepped p s ts (refusal p s (Block g)) _ _ (kept p s ts _ _ refl)
appends p s ts (Unblock g) = stepped p s ts (refusal p s (Unblock g)) _ _ (kept p s ts _ _ refl)
appends p s ts (CircuitOut x) = stepped p s ts (refusal p s (CircuitOut x)) _ _ (kept p s ts _ _ refl)
appends p s ts (CircuitIn x) = stepped p s ts (refusal p s (CircuitIn x)) _ _ (kept p s ts _ _ refl)
appends p s ts (LineFault l) = stepped p s ts (refusal p s (LineFault l)) _ _ (kept p s ts _ _ refl)
appends p s ts (LineMend l) = stepped p s ts (refusal p s (LineMend l)) _ _ (kept p s ts _ _ refl)
appends p s ts (LineAway l) = stepped p s ts (refusal p s (LineAway l)) _ _ (kept p s ts _ _ refl)
appends p s ts (LineBack l) = stepped p s ts (refusal p s (LineBack l)) _ _ (kept p s ts _ _ refl)
