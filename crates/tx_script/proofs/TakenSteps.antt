-- Each event does to the circuits that are taken what its reply tells.
use Rattle.tx_script.proofs.Common.{◌≡◌, ℕ, ◌==◌, Bool, true, false, not, ◌&&◌, ◌||◌, [], ◌∷◌, ◌++◌, ◌⊎◌, inl, inr, Option, Some, None, refl, sym, ap, ◌∙◌, subst, if◌then◌else◌, same_circuit, Plan, home_of, code_of, is_barred, Among, Circuit, Line, same_circuit-is, same_circuit-itself, Event, Key, Route, Confirm, Clear, Released, Fail, Restore, Block, Unblock, CircuitOut, CircuitIn, LineFault, LineMend, LineAway, LineBack, Service, Nc, Np, Na, Cause, Refusal, Reply, Refused, Phase, Standing, Calling, Connected, State, line_answer, with_call, accepted, counted, unless_refused, step, cause_by, Holds, calling_on, is_taken, still}
use Rattle.std.proofs.lemmas.Bool.{or_cases, and_parts, and_from, not-false}
use Rattle.std.specs.Cmp.{both_ways}
use Rattle.std.specs.FinSet as set
use Rattle.tx_plan.specs.Circuits.{is_circuit}
use Rattle.tx_machine.specs.declared.cause.Cause.TheVariants.{Service as ByService}
use Rattle.tx_machine.specs.declared.refusal.Refusal.TheVariants.{UnknownCall}
use Rattle.tx_machine.specs.Call.{Call, exchange_of, call_of, is_standing, is_numbered, is_first}
use Rattle.tx_machine.specs.InUse.{choice, seizes, seizes_from}
use Rattle.tx_machine.specs.Refusals.{is_other, refusals, refusal}
use Rattle.tx_machine.specs.Ending.{end_calls, answered}
use Rattle.tx_machine.specs.Routing.{at_line, at_trunk, line_of, routed_for}
use Rattle.tx_machine.specs.Confirming.{far_of, collide, second_time, confirmed_by, rival, confirmed}
use Rattle.tx_machine.proofs.Lists.{find_mem}
use Rattle.tx_machine.proofs.Steps.{tests_false, stands}
use Rattle.tx_script.proofs.Taken.{Taken, is_taken-so, so-is_taken, end_only, end_all, fail_only, fail_all, key_only, key_all, connect_only, connect_all, seize_only, seize_all, carry_only, carry_all, collide_only, collide_all, release_only, release_all}

-- where the same members are taken, the same is told of them
taken_same : (s t : State) (y : Circuit) → (Taken t y → Taken s y) → (Taken s y → Taken t y) → is_taken t y ≡ is_taken s y
taken_same s t y only all = both_ways (is_taken t y) (is_taken s y) (λ e. so-is_taken s y (only (is_taken-so t y e))) (λ e. so-is_taken t y (all (is_taken-so s y e)))

-- where a test is met too
taken_but : (s t : State) (y : Circuit) (b : Bool) → (Taken t y → (b ≡ true) × Taken s y) → ((b ≡ true) × Taken s y → Taken t y) → is_taken t y ≡ (b && is_taken s y)
taken_but s t y b only all =
    both_ways (is_taken t y) (b && is_taken s y) (λ e. let q = only (is_taken-so t y e) in and_from b (is_taken s y) q.0 (so-is_taken s y q.1))
    (λ e. let q = and_parts b (is_taken s y) e in so-is_taken t y (all (q.0, is_taken-so s y q.1)))

-- with one more
taken_more : (s t : State) (x y : Circuit) → (Taken t y → (x ≡ y) ⊎ Taken s y) → ((x ≡ y) ⊎ Taken s y → Taken t y) → is_taken t y ≡ (same_circuit x y || is_taken s y)
taken_more s t x y only all =
    both_ways (is_taken t y) (same_circuit x y || is_taken s y) (λ e. told (only (is_taken-so t y e)))
    (λ e. so-is_taken t y (all (elim (or_cases (same_circuit x y) (is_taken s y) e) [ inl a ↦ inl (same_circuit-is x y a) | inr b ↦ inr (is_taken-so s y b) ])))
  where
    told : (x ≡ y) ⊎ Taken s y → (same_circuit x y || is_taken s y) ≡ true
    told (inl e) = ap (λ b. b || is_taken s y) (ap (same_circuit x) (sym e) ∙ same_circuit-itself x)
    told (inr u) = elim (same_circuit x y) as (λ b. (b || is_taken s y) ≡ true) [ true ↦ refl | false ↦ so-is_taken s y u ]

module _ (p : Plan) (s : State) (h : Holds p s) (y : Circuit) where
  abbrev Follows : Event → Reply × State → Type 0
  Follows e r = is_taken r.1 y ≡ still e r.0 y (is_taken s y)

  ends_same : (cause : Cause) (ends : Call → Bool) → is_taken (end_calls p cause ends s) y ≡ is_taken s y
  ends_same cause ends = taken_same s (end_calls p cause ends s) y (end_only p s y cause ends) (end_all p s y cause ends)

  module _ (c : Call) (m : Among c s.calls) where
    line_follows : (n : ℕ) (l : Line) → c.phase ≡ Standing → (o : Option Service) → Follows (Route n) (at_line p s c l o)
    line_follows n l e None = taken_same s (at_line p s c l None).1 y (connect_only p s y h c m e l) (connect_all p s y h c m e l)
    line_follows n l e (Some service) = ends_same (ByService service) (is_numbered c.number)

    trunk_follows : (n : ℕ) → c.phase ≡ Standing → (o : Option Circuit) → Follows (Route n) (at_trunk p s c o)
    trunk_follows n e None = ends_same (ByService Nc) (is_numbered c.number)
    trunk_follows n e (Some x) = taken_more s (at_trunk p s c (Some x)).1 x y (seize_only p s y h c m e x) (seize_all p s y h c m e x)

    pick : (n : ℕ) (a b : Bool) (x q z : Reply × State) → Follows (Route n) x → Follows (Route n) q → Follows (Route n) z → Follows (Route n) (if a then x else if b then q else z)
    pick n true b x q z hx hq hz = hx
    pick n false true x q z hx hq hz = hq
    pick n false false x q z hx hq hz = hz

    route_follows : (n : ℕ) → c.phase ≡ Standing → (o : Option ℕ) → Follows (Route n) (routed_for p s c o)
    route_follows n e None = ends_same (ByService Np) (is_numbered c.number)
    route_follows n e (Some code) =
        pick n (is_first c.hops && is_barred p (exchange_of p c) code) (home_of p code == exchange_of p c) (answered p c.number Na s) (at_line p s c (line_of p code c.keyed) (line_answer p s (line_of p code c.keyed))) (at_trunk p s c (choice p s (exchange_of p c) code))
        (ends_same (ByService Na) (is_numbered c.number)) (line_follows n (line_of p code c.keyed) e (line_answer p s (line_of p code c.keyed))) (trunk_follows n e (choice p s (exchange_of p c) code))

    meet_follows : (n : ℕ) (x : Circuit) → c.phase ≡ Calling x → (o : Option Call) → rival p s c x ≡ o → Follows (Confirm n) (confirmed_by p s c x o)
    meet_follows n x e None q = taken_same s (confirmed_by p s c x None).1 y (carry_only p s y h c m x (far_of p c x) e) (carry_all p s y h c m x (far_of p c x) e)
    meet_follows n x e (Some d) q =
        let r = find_mem (λ d. not (d.number == c.number) && seizes_from p d x (far_of p c x)) s.calls d q in
        let t = and_parts (not (d.number == c.number)) (seizes_from p d x (far_of p c x)) r.1 in
        let o = calling_on d.phase x (and_parts (seizes d x) (exchange_of p d == far_of p c x) t.1).0 in
        let hit = collide c.number d.number x s in
        taken_same hit (end_calls p (ByService Nc) (second_time c d) hit) y (end_only p hit y (ByService Nc) (second_time c d)) (end_all p hit y (ByService Nc) (second_time c d))
        ∙ taken_same s hit y (collide_only p s y h c m d r.0 x e o) (collide_all p s y h c m d r.0 x e o)

    confirm_follows : (n : ℕ) (phase : Phase) → c.phase ≡ phase → Follows (Confirm n) (confirmed p s c phase)
    confirm_follows n Standing e = refl
    confirm_follows n (Calling x) e = meet_follows n x e (rival p s c x) refl
    confirm_follows n (Connected l) e = refl

  module _ (e : Event) (same : (r : Refusal) → Follows e (Refused r, s)) where
    with_follows : (n : ℕ) (act : Call → Reply × State) → ((c : Call) → Among c s.calls → call_of n s.calls ≡ Some c → Follows e (act c)) → Follows e (with_call (call_of n s.calls) s act)
    with_follows n act each = at (call_of n s.calls) refl
      where
        at : (o : Option Call) → call_of n s.calls ≡ o → Follows e (with_call o s act)
        at None q = same UnknownCall
        at (Some c) q = each c (find_mem (λ c. c.number == n) s.calls c q).0 q

  -- an event that is refused does nothing
  refused_same : (e : Event) (r : Refusal) → Follows e (Refused r, s)
  refused_same (Key line keyed) r = refl
  refused_same (Route n) r = refl
  refused_same (Confirm n) r = refl
  refused_same (Clear n party) r = refl
  refused_same (Released x) r = refl
  refused_same (Fail g) r = refl
  refused_same (Restore g) r = refl
  refused_same (Block g) r = refl
  refused_same (Unblock g) r = refl
  refused_same (CircuitOut x) r = refl
  refused_same (CircuitIn x) r = refl
  refused_same (LineFault l) r = refl
  refused_same (LineMend l) r = refl
  refused_same (LineAway l) r = refl
  refused_same (LineBack l) r = refl

  accepted_follows : (e : Event) → refusal p s e ≡ None → Follows e (accepted p s e)
  accepted_follows (Key line keyed) none = taken_same s (accepted p s (Key line keyed)).1 y (key_only p s y line keyed) (key_all p s y line keyed)
  accepted_follows (Route n) none =
      let t = tests_false (refusals p s (Route n) ++ _ ∷ []) none in
      with_follows (Route n) (refused_same (Route n)) n _ (λ c m q. route_follows c m n (stands c.phase (subst (λ o. is_other is_standing o ≡ false) q t.1.0)) (code_of p c.keyed))
  accepted_follows (Confirm n) none = with_follows (Confirm n) (refused_same (Confirm n)) n _ (λ c m q. confirm_follows c m n c.phase refl)
  accepted_follows (Clear n party) none = ends_same (cause_by party) (is_numbered n)
  accepted_follows (Released x) none =
      let t = tests_false (refusals p s (Released x) ++ _ ∷ []) none in
      let known : is_circuit p x ≡ true = not-false _ t.1.0 in
      let rel : set.contains s.releasing x ≡ true = not-false _ (sym (ap (λ b. b && not (set.contains s.releasing x)) known) ∙ t.0) in
      taken_but s (accepted p s (Released x)).1 y (not (same_circuit x y)) (release_only p s y h x rel) (release_all p s y h x rel)
  accepted_follows (Fail g) none = taken_but s (accepted p s (Fail g)).1 y (not (y.group == g)) (fail_only p s y g) (fail_all p s y g)
  accepted_follows (Restore g) none = refl
  accepted_follows (Block g) none = refl
  accepted_follows (Unblock g) none = refl
  accepted_follows (CircuitOut x) none = refl
  accepted_follows (CircuitIn x) none = refl
  accepted_follows (LineFault l) none = refl
  accepted_follows (LineMend l) none = refl
  accepted_follows (LineAway l) none = refl
  accepted_follows (LineBack l) none = refl

-- THE LAW: a circuit is taken after an event as the reply tells
pub taken_step : (p : Plan) (s : State) → Holds p s → (e : Event) (y : Circuit) → is_taken (step p s e).1 y ≡ still e (step p s e).0 y (is_taken s y)
taken_step p s h e y = at (refusal p s e) refl
  where
    at : (o : Option Refusal) → refusal p s e ≡ o → is_taken (unless_refused o s (counted (accepted p s e))).1 y ≡ still e (unless_refused o s (counted (accepted p s e))).0 y (is_taken s y)
    at (Some r) q = refused_same p s h y e r
    at None q = accepted_follows p s h y e q
