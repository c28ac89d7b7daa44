-- What an event that is not refused may count on.
use Rattle.tx_machine.proofs.Common.{◌≡◌, ℕ, ◌-◌, ◌^◌, ◌<◌, ◌==◌, Bool, true, false, not, ◌&&◌, List, [], ◌∷◌, ◌++◌, Some, None, Option, refl, sym, subst, length, arith, is_some, is_none, slice_get, nat_le, if◌then◌else◌, false≢true, not-false, nat_tests, slice_get_within, Plan, Group, home_of, code_of, is_barred, Circuit, is_line, first_true, Line, Event, Key, Route, Confirm, Clear, Released, Fail, Restore, Block, Unblock, CircuitOut, CircuitIn, LineFault, LineMend, LineAway, LineBack, Service, Na, Reply, Caller, Called, Refusal, Call, call_of, is_standing, is_calling, is_first, exchange_of, is_engaged, line_answer, choice, answered, at_line, at_trunk, line_of, routed_for, confirmed_by, rival, confirmed, with_call, accepted, State, refusals, refusal, is_group, is_other}
use Rattle.tx_machine.specs.declared.open_call.Party.{Party}
use Rattle.tx_machine.specs.declared.open_call.Phase.{Phase}
use Rattle.tx_machine.specs.declared.open_call.Phase.TheVariants.{Standing, Calling, Connected}
use Rattle.tx_machine.specs.declared.refusal.Refusal.TheVariants.{Exhausted}
use Rattle.tx_machine.proofs.Steps.{tests_false, stands}

-- a group that is not foreign
pub group_within : (p : Plan) (g : ℕ) → not (is_group p g) ≡ false → g < length p.groups
group_within p g h = at (slice_get p.groups g) refl h
  where
    at : (o : Option Group) → slice_get p.groups g ≡ o → not (is_some o) ≡ false → g < length p.groups
    at None e h = absurd (false≢true (sym h))
    at (Some r) e h = slice_get_within p.groups g r e

-- it can be counted
pub can_count : (p : Plan) (s : State) (e : Event) → refusal p s e ≡ None → s.events < 2 ^ 64 - 1
can_count p s e h = let t = last (refusals p s e) (nat_le (2 ^ 64 - 1) s.events) h in grind (arith, nat_tests)
  where
    last : (ts : List (Bool × Refusal)) (b : Bool) → first_true (ts ++ (b, Exhausted) ∷ []) ≡ None → b ≡ false
    last [] true h = let bad : ⊥ = cc in absurd bad
    last [] false h = refl
    last ((true, r) ∷ ts) b h = let bad : ⊥ = cc in absurd bad
    last ((false, r) ∷ ts) b h = last ts b h

-- the call of a Key can have a number
pub can_key : (p : Plan) (s : State) (line : Line) (keyed : List ℕ) → refusal p s (Key line keyed) ≡ None → s.numbers < 2 ^ 32 - 1
can_key p s line keyed h = let t = (tests_false (refusals p s (Key line keyed) ++ (nat_le (2 ^ 64 - 1) s.events, Exhausted) ∷ []) h).1.1.1.0 in grind (arith, nat_tests)

-- its line is one of the plan's, and takes part in no call
pub key_line : (p : Plan) (s : State) (line : Line) (keyed : List ℕ) → refusal p s (Key line keyed) ≡ None → (is_line p line ≡ true) × (is_engaged s line ≡ false)
key_line p s line keyed h = let t = tests_false (refusals p s (Key line keyed) ++ (nat_le (2 ^ 64 - 1) s.events, Exhausted) ∷ []) h in (not-false (is_line p line) t.0, t.1.0)

-- the call of a Route, of a Confirm or of a Clear is open
is_open : (o : Option Call) → is_none o ≡ false → is_some o ≡ true
is_open None h = absurd (false≢true (sym h))
is_open (Some c) h = refl

module _ (p : Plan) (s : State) (n : ℕ) where
  pub can_route : refusal p s (Route n) ≡ None → is_some (call_of n s.calls) ≡ true
  can_route h = is_open (call_of n s.calls) (tests_false (refusals p s (Route n) ++ (nat_le (2 ^ 64 - 1) s.events, Exhausted) ∷ []) h).0

  -- and stands
  pub route_stands : refusal p s (Route n) ≡ None → (c : Call) → call_of n s.calls ≡ Some c → c.phase ≡ Standing
  route_stands h c e = stands c.phase (subst (λ o. is_other is_standing o ≡ false) e (tests_false (refusals p s (Route n) ++ (nat_le (2 ^ 64 - 1) s.events, Exhausted) ∷ []) h).1.0)

  pub can_confirm : refusal p s (Confirm n) ≡ None → (is_some (call_of n s.calls) ≡ true) × (is_other is_calling (call_of n s.calls) ≡ false)
  can_confirm h = let t = tests_false (refusals p s (Confirm n) ++ (nat_le (2 ^ 64 - 1) s.events, Exhausted) ∷ []) h in (is_open (call_of n s.calls) t.0, t.1.0)

  pub can_clear : (party : Party) → refusal p s (Clear n party) ≡ None → is_some (call_of n s.calls) ≡ true
  can_clear Caller h = is_open (call_of n s.calls) (tests_false (refusals p s (Clear n Caller) ++ (nat_le (2 ^ 64 - 1) s.events, Exhausted) ∷ []) h).0
  can_clear Called h = is_open (call_of n s.calls) (tests_false (refusals p s (Clear n Called) ++ (nat_le (2 ^ 64 - 1) s.events, Exhausted) ∷ []) h).0

-- the group of a Fail is one of the plan's
pub can_fail : (p : Plan) (s : State) (g : ℕ) → refusal p s (Fail g) ≡ None → g < length p.groups
can_fail p s g h = group_within p g (tests_false (refusals p s (Fail g) ++ (nat_le (2 ^ 64 - 1) s.events, Exhausted) ∷ []) h).1.0

-- it is counted once it is done
module _ (p : Plan) (s : State) where
  line : (c : Call) (l : Line) (o : Option Service) → (at_line p s c l o).1.events ≡ s.events
  line c l None = refl
  line c l (Some service) = refl

  trunk : (c : Call) (o : Option Circuit) → (at_trunk p s c o).1.events ≡ s.events
  trunk c None = refl
  trunk c (Some x) = refl

  route : (c : Call) (o : Option ℕ) → (routed_for p s c o).1.events ≡ s.events
  route c None = refl
  route c (Some code) = by (is_first c.hops && is_barred p (exchange_of p c) code) (home_of p code == exchange_of p c)
    where
      by : (z h : Bool) → (if z then answered p c.number Na s else if h then at_line p s c (line_of p code c.keyed) (line_answer p s (line_of p code c.keyed)) else at_trunk p s c (choice p s (exchange_of p c) code)).1.events ≡ s.events
      by true h = refl
      by false true = line c (line_of p code c.keyed) (line_answer p s (line_of p code c.keyed))
      by false false = trunk c (choice p s (exchange_of p c) code)

  meet : (c : Call) (x : Circuit) (o : Option Call) → (confirmed_by p s c x o).1.events ≡ s.events
  meet c x None = refl
  meet c x (Some d) = refl

  confirm : (c : Call) (phase : Phase) → (confirmed p s c phase).1.events ≡ s.events
  confirm c Standing = refl
  confirm c (Calling x) = meet c x (rival p s c x)
  confirm c (Connected l) = refl

  with_call_same : (act : Call → Reply × State) → ((c : Call) → (act c).1.events ≡ s.events) → (o : Option Call) → (with_call o s act).1.events ≡ s.events
  with_call_same act each None = refl
  with_call_same act each (Some c) = each c

  pub not_counted : (e : Event) → (accepted p s e).1.events ≡ s.events
  not_counted (Key line keyed) = refl
  not_counted (Route n) = with_call_same _ (λ c. route c (code_of p c.keyed)) (call_of n s.calls)
  not_counted (Confirm n) = with_call_same _ (λ c. confirm c c.phase) (call_of n s.calls)
  not_counted (Clear n party) = refl
  not_counted (Released x) = refl
  not_counted (Fail g) = refl
  not_counted (Restore g) = refl
  not_counted (Block g) = refl
  not_counted (Unblock g) = refl
  not_counted (CircuitOut x) = refl
  not_counted (CircuitIn x) = refl
  not_counted (LineFault l) = refl
  not_counted (LineMend l) = refl
  not_counted (LineAway l) = refl
  not_counted (LineBack l) = refl
