-- Under a certificate few Route events of one call are accepted.
use Rattle.std.proofs.Common.{◌≡◌, ℕ, ◌+◌, ◌*◌, ◌<◌, ◌≤◌, ◌==◌, Bool, true, false, not, ◌&&◌, List, [], ◌∷◌, ◌++◌, inl, inr, length, Option, Some, None, refl, sym, ap, ◌∙◌, subst, eqb-true, arith, length-append}
use Rattle.tx_machine.proofs.Common.{same_Some, if◌then◌else◌, is_none, Plan, home_of, IsPlan, Ranks, IsCertified, code_of, is_barred, Among, Circuit, Line, filter_among, Event, Key, Route, Confirm, Clear, Released, Fail, Restore, Block, Unblock, CircuitOut, CircuitIn, LineFault, LineMend, LineAway, LineBack, Service, Nc, Np, Na, Cause, Refusal, Reply, Answered, Hop, Phase, Standing, Calling, Connected, Call, exchange_of, call_of, is_standing, is_numbered, is_first, State, opening, choice, line_answer, is_other, refusals, refusal, set_call, in_phase, at_line, at_trunk, line_of, routed_for, end_calls, confirmed_by, rival, confirmed, with_call, accepted, counted, unless_refused, step, run, routed_call, Holds, IsRanked}
use Rattle.std.proofs.lemmas.Bool.{false≢true, true≢false, and_parts, not-true, eqb-false, cases_Bool}
use Rattle.tx_machine.specs.declared.cause.Cause.TheVariants.{Service as ByService}
use Rattle.tx_machine.specs.Sound.{is_refused, is_route_of, routes_of, HasFewRoutes}
use Rattle.tx_machine.proofs.Lists.{find_mem}
use Rattle.tx_machine.proofs.Invariant.{set_cases, inv_opening}
use Rattle.tx_machine.proofs.Steps.{tests_false, stands, step_keeps}
use Rattle.tx_machine.proofs.Moves.{Moves, moves_number, stays, connects, seizes_one, goes_on, falls_back, came, after_accepted}
use Rattle.tx_machine.proofs.Ranks.{AllRanked, AreLed, all_led, step_ranked, hops_within, ranked_index}

-- a Route of a call that stands leaves it in another phase, or ended
module _ (p : Plan) (s : State) (h : Holds p s) (c' : Call) (c : Call) (m : Among c s.calls) (n : c'.number ≡ c.number) (e : c'.phase ≡ Standing) where
  gone : (cause : Cause) → Among c' (end_calls p cause (is_numbered c.number) s).calls → ⊥
  gone cause q = eqb-false _ _ (not-true _ (filter_among (λ k. not (is_numbered c.number k)) c' s.calls q).1) n

  moved : (phase : Phase) → (phase ≡ Standing → ⊥) → Among c' (set_call c.number (in_phase phase) s.calls) → ⊥
  moved phase other q = elim (set_cases p s.calls s.releasing s.numbers h c m (in_phase phase) c' q) [ inl o ↦ o.1 n | inr i ↦ other (ap (λ (z : Call). z.phase) i ∙ e) ]

  line_leaves : (l : Line) (o : Option Service) → Among c' (at_line p s c l o).1.calls → ⊥
  line_leaves l None q = moved (Connected l) (λ i. cc) q
  line_leaves l (Some service) q = gone (ByService service) q

  trunk_leaves : (o : Option Circuit) → Among c' (at_trunk p s c o).1.calls → ⊥
  trunk_leaves None q = gone (ByService Nc) q
  trunk_leaves (Some x) q = moved (Calling x) (λ i. cc) q

  route_leaves : (o : Option ℕ) → Among c' (routed_for p s c o).1.calls → ⊥
  route_leaves None q = gone (ByService Np) q
  route_leaves (Some code) q =
      elim (is_first c.hops && is_barred p (exchange_of p c) code) as (λ b. Among c' (if b then answer Na else if home_of p code == exchange_of p c then line else trunk).1.calls → ⊥) [
        | true ↦ λ q. gone (ByService Na) q
        | false ↦ elim (home_of p code == exchange_of p c) as (λ b. Among c' (if b then line else trunk).1.calls → ⊥) [ true ↦ λ q. line_leaves (line_of p code c.keyed) _ q | false ↦ λ q. trunk_leaves _ q ]
      ] q
    where
      answer : Service → Reply × State
      answer service = (Answered service, end_calls p (ByService service) (is_numbered c.number) s)

      line : Reply × State
      line = at_line p s c (line_of p code c.keyed) (line_answer p s (line_of p code c.keyed))

      trunk : Reply × State
      trunk = at_trunk p s c (choice p s (exchange_of p c) code)

-- the count of numbers never falls
line_numbers : (p : Plan) (s : State) (c : Call) (l : Line) (o : Option Service) → (at_line p s c l o).1.numbers ≡ s.numbers
line_numbers p s c l None = refl
line_numbers p s c l (Some service) = refl

trunk_numbers : (p : Plan) (s : State) (c : Call) (o : Option Circuit) → (at_trunk p s c o).1.numbers ≡ s.numbers
trunk_numbers p s c None = refl
trunk_numbers p s c (Some x) = refl

route_numbers : (p : Plan) (s : State) (c : Call) (o : Option ℕ) → (routed_for p s c o).1.numbers ≡ s.numbers
route_numbers p s c None = refl
route_numbers p s c (Some code) = pick (is_first c.hops && is_barred p (exchange_of p c) code) (home_of p code == exchange_of p c) _ _ _ refl (line_numbers p s c (line_of p code c.keyed) _) (trunk_numbers p s c _)
  where
    pick : (a b : Bool) (x y z : Reply × State) → x.1.numbers ≡ s.numbers → y.1.numbers ≡ s.numbers → z.1.numbers ≡ s.numbers → (if a then x else if b then y else z).1.numbers ≡ s.numbers
    pick true b x y z hx hy hz = hx
    pick false true x y z hx hy hz = hy
    pick false false x y z hx hy hz = hz

meet_numbers : (p : Plan) (s : State) (c : Call) (x : Circuit) (o : Option Call) → (confirmed_by p s c x o).1.numbers ≡ s.numbers
meet_numbers p s c x None = refl
meet_numbers p s c x (Some d) = refl

confirm_numbers : (p : Plan) (s : State) (c : Call) (phase : Phase) → (confirmed p s c phase).1.numbers ≡ s.numbers
confirm_numbers p s c Standing = refl
confirm_numbers p s c (Calling x) = meet_numbers p s c x (rival p s c x)
confirm_numbers p s c (Connected l) = refl

with_numbers : (s : State) (o : Option Call) (act : Call → Reply × State) → ((c : Call) → (act c).1.numbers ≡ s.numbers) → (with_call o s act).1.numbers ≡ s.numbers
with_numbers s None act each = refl
with_numbers s (Some c) act each = each c

accepted_numbers : (p : Plan) (s : State) (e : Event) → s.numbers ≤ (accepted p s e).1.numbers
accepted_numbers p s (Key line keyed) = omega arith
accepted_numbers p s (Route n) = let i = with_numbers s (call_of n s.calls) _ (λ c. route_numbers p s c (code_of p c.keyed)) in subst (λ k. s.numbers ≤ k) (sym i) (omega arith)
accepted_numbers p s (Confirm n) = let i = with_numbers s (call_of n s.calls) _ (λ c. confirm_numbers p s c c.phase) in subst (λ k. s.numbers ≤ k) (sym i) (omega arith)
accepted_numbers p s (Clear n party) = omega arith
accepted_numbers p s (Released x) = omega arith
accepted_numbers p s (Fail g) = omega arith
accepted_numbers p s (Restore g) = omega arith
accepted_numbers p s (Block g) = omega arith
accepted_numbers p s (Unblock g) = omega arith
accepted_numbers p s (CircuitOut x) = omega arith
accepted_numbers p s (CircuitIn x) = omega arith
accepted_numbers p s (LineFault l) = omega arith
accepted_numbers p s (LineMend l) = omega arith
accepted_numbers p s (LineAway l) = omega arith
accepted_numbers p s (LineBack l) = omega arith

pub step_numbers : (p : Plan) (s : State) (e : Event) → s.numbers ≤ (step p s e).1.numbers
step_numbers p s e = at (refusal p s e)
  where
    at : (o : Option Refusal) → s.numbers ≤ (unless_refused o s (counted (accepted p s e))).1.numbers
    at (Some r) = omega arith
    at None = accepted_numbers p s e

-- a bound on the Routes of a call so far
abbrev one_if : Bool → ℕ
one_if true = 1
one_if false = 0

abbrev waits : Phase → ℕ
waits Standing = 0
waits (Calling x) = 1
waits (Connected l) = 1

abbrev used : Call → ℕ
used c = 2 * length c.hops + (one_if c.collided + waits c.phase)

one_most : (b : Bool) → one_if b ≤ 1
one_most true = omega arith
one_most false = omega arith

-- from a call that stands, to one that doesn't, one more
moves_more : (p : Plan) (e : Event) (c c' : Call) → Moves p e c c' → c.phase ≡ Standing → (c'.phase ≡ Standing → ⊥) → used c + 1 ≤ used c'
moves_more p e c c' (stays q) st no' = absurd (no' (ap (λ (z : Call). z.phase) (sym q) ∙ st))
moves_more p e c c' (connects l event stands q) st no' = let w = ap waits st in let u = ap used q in omega arith
moves_more p e c c' (seizes_one x code event stands keyed open' away listed q) st no' = let w = ap waits st in let u = ap used q in omega arith
moves_more p e c c' (goes_on x calls q) st no' = let bad : ⊥ = cc in absurd bad
moves_more p e c c' (falls_back x calls first q) st no' = let bad : ⊥ = cc in absurd bad

moves_used : (p : Plan) (e : Event) (c c' : Call) → Moves p e c c' → used c ≤ used c'
moves_used p e c c' (stays q) = let u = ap used q in omega arith
moves_used p e c c' (connects l event stands q) = let w = ap waits stands in let u = ap used q in omega arith
moves_used p e c c' (seizes_one x code event stands keyed open' away listed q) = let w = ap waits stands in let u = ap used q in omega arith
moves_used p e c c' (goes_on x calls q) =
    let w = ap waits calls in let u = ap used q in let b = one_most c.collided in
    subst (λ k. used c ≤ k) u (omega (arith, length-append {A = Hop}))
moves_used p e c c' (falls_back x calls first q) = let w = ap waits calls in let f = ap one_if first in let u = ap used q in omega arith

-- k Routes of call n were accepted so far
pub record IsCounted (limit : ℕ) (calls : List Call) (numbers n k : ℕ) : Type 0 where
  pub few : k ≤ 2 * limit + 3
  pub open' : (c : Call) → Among c calls → c.number ≡ n → k ≤ used c
  pub later : numbers < n → k ≡ 0

abbrev pub is_counted : ℕ → Event → Reply → Bool
is_counted n e r = is_route_of n (routed_call e) && not (is_refused r)

-- any other event
module _ (p : Plan) (limit n : ℕ) where
  other_step : (s : State) → Holds p s → (e : Event) → (k : ℕ) → IsCounted limit s.calls s.numbers n k → IsCounted limit (step p s e).1.calls (step p s e).1.numbers n k
  other_step s h e k i = record {
    few = i.few;
    open' = λ c' m q. elim (came p s h e c' m) [
      | inl (c, mc, moves) ↦ let b = i.open' c mc (moves_number p e c c' moves ∙ q) in let u = moves_used p e c c' moves in omega arith
      | inr new ↦ let d = ap (λ (z : Call). z.number) new.call in let z = i.later (omega arith) in omega arith
    ];
    later = λ l. let b = step_numbers p s e in i.later (omega arith);
  }

-- a call that stands has a Route left
module _ (p : Plan) (ranks : Ranks) (limit spare : ℕ) (cert : IsCertified p ranks limit spare) where
  room : (c : Call) → IsRanked p ranks c → c.phase ≡ Standing → (code : ℕ) → code_of p c.keyed ≡ Some code → (is_first c.hops && is_barred p (exchange_of p c) code) ≡ false → used c + 1 ≤ 2 * limit + 3
  room c r st code keyed open' =
      let a = ranked_index p ranks limit spare cert c r code keyed open' in
      let b = hops_within p ranks limit spare cert c r code keyed a.0 a.1 in
      let w = ap waits st in
      at c.collided refl a.0 a.1 b w
    where
      at : (b : Bool) → c.collided ≡ b → (a : ℕ) → ranks code (exchange_of p c) ≡ Some a → a + length c.hops ≤ limit + 1 → waits c.phase ≡ 0 → used c + 1 ≤ 2 * limit + 3
      at false e a here b w = let f = ap one_if e in omega arith
      at true e a here b w =
          let f = ap one_if e in
          let d = r.collided e in
          let same = same_Some _ _ (sym d.1 ∙ keyed) in
          let up = same_Some _ _ (sym here ∙ ap (λ k. ranks k (exchange_of p c)) (sym same) ∙ d.3) in
          omega arith

  first_room : (c : Call) → c.hops ≡ [] → c.phase ≡ Standing → used c + 1 ≤ 2 * limit + 3
  first_room c e st = let w = ap waits st in let b = one_most c.collided in let l = ap (λ hops. length hops) e in omega arith

  is_first-is : (hops : List Hop) → is_first hops ≡ true → hops ≡ []
  is_first-is [] e = refl
  is_first-is (h ∷ hops) e = absurd (false≢true e)

  any_room : (c : Call) → IsRanked p ranks c → c.phase ≡ Standing → used c + 1 ≤ 2 * limit + 3
  any_room c r st = at (code_of p c.keyed) refl
    where
      at : (o : Option ℕ) → code_of p c.keyed ≡ o → used c + 1 ≤ 2 * limit + 3
      at None e = first_room c (r.unrouted e) st
      at (Some code) e = elim (cases_Bool (is_first c.hops && is_barred p (exchange_of p c) code)) [
        | inl t ↦ first_room c (is_first-is c.hops (and_parts _ _ t).0) st
        | inr f ↦ room c r st code e f
      ]

module _ (p : Plan) (ranks_of : ℕ → Ranks) (limit spare n : ℕ) where
  -- a Route of call n
  route_step : (s : State) → Holds p s → AreLed p ranks_of limit spare s.calls → refusal p s (Route n) ≡ None → (k : ℕ) → IsCounted limit s.calls s.numbers n k → IsCounted limit (accepted p s (Route n)).1.calls (accepted p s (Route n)).1.numbers n (k + 1)
  route_step s h led none k i =
      let t = tests_false (refusals p s (Route n) ++ _ ∷ []) none in
      at (call_of n s.calls) refl t.0 t.1.0
    where
      found : (c : Call) → call_of n s.calls ≡ Some c → c.phase ≡ Standing → IsCounted limit (accepted p s (Route n)).1.calls (accepted p s (Route n)).1.numbers n (k + 1)
      found c e st =
          let f = find_mem (λ c. c.number == n) s.calls c e in
          let same : c.number ≡ n = eqb-true _ _ f.1 in
          let b = i.open' c f.0 same in
          let few = any_room p (ranks_of c.number) limit spare (led.certified c f.0 st) c (led.ranked c f.0) st in
          let given = h.given c f.0 in
          record {
            few = omega arith;
            open' = λ c' m q. elim (after_accepted p s h (Route n) none c' m) [
              | inl (d, md, moves) ↦
                  let dc = h.one d c md f.0 (moves_number p (Route n) d c' moves ∙ q ∙ sym same) in
                  let leaves = λ (w : c'.phase ≡ Standing). route_leaves p s h c' c f.0 (q ∙ sym same) w (code_of p c.keyed) (subst (λ o. Among c' (with_call o s (λ c. routed_for p s c (code_of p c.keyed))).1.calls) e m) in
                  let more = moves_more p (Route n) d c' moves (ap (λ (z : Call). z.phase) dc ∙ st) leaves in
                  let u = ap used dc in
                  omega arith
              | inr new ↦ let d = ap (λ (z : Call). z.number) new.call in absurd (omega arith)
            ];
            later = λ l. let a = accepted_numbers p s (Route n) in absurd (omega arith);
          }

      at : (o : Option Call) → call_of n s.calls ≡ o → is_none o ≡ false → is_other is_standing o ≡ false → IsCounted limit (accepted p s (Route n)).1.calls (accepted p s (Route n)).1.numbers n (k + 1)
      at None e a b = absurd (true≢false a)
      at (Some c) e a b = found c e (stands c.phase b)

  -- any event, with the Route that it may be
  pub counted_step : (s : State) → Holds p s → AreLed p ranks_of limit spare s.calls → (e : Event) → (k : ℕ) → IsCounted limit s.calls s.numbers n k → IsCounted limit (step p s e).1.calls (step p s e).1.numbers n (k + (if is_counted n e (step p s e).0 then 1 else 0))
  counted_step s h led e k i = at (is_counted n e (step p s e).0) refl
    where
      as_route : (e : Event) → is_route_of n (routed_call e) ≡ true → e ≡ Route n
      as_route (Route m) t = ap Route (eqb-true m n t)
      as_route (Key line keyed) t = absurd (false≢true t)
      as_route (Confirm m) t = absurd (false≢true t)
      as_route (Clear m party) t = absurd (false≢true t)
      as_route (Released x) t = absurd (false≢true t)
      as_route (Fail g) t = absurd (false≢true t)
      as_route (Restore g) t = absurd (false≢true t)
      as_route (Block g) t = absurd (false≢true t)
      as_route (Unblock g) t = absurd (false≢true t)
      as_route (CircuitOut x) t = absurd (false≢true t)
      as_route (CircuitIn x) t = absurd (false≢true t)
      as_route (LineFault l) t = absurd (false≢true t)
      as_route (LineMend l) t = absurd (false≢true t)
      as_route (LineAway l) t = absurd (false≢true t)
      as_route (LineBack l) t = absurd (false≢true t)

      by_refusal : (o : Option Refusal) → refusal p s (Route n) ≡ o → is_counted n (Route n) (unless_refused o s (counted (accepted p s (Route n)))).0 ≡ true → IsCounted limit (unless_refused o s (counted (accepted p s (Route n)))).1.calls (unless_refused o s (counted (accepted p s (Route n)))).1.numbers n (k + 1)
      by_refusal (Some r) q t = absurd (false≢true ((and_parts _ _ t).1))
      by_refusal None q t = route_step s h led q k i

      at : (b : Bool) → is_counted n e (step p s e).0 ≡ b → IsCounted limit (step p s e).1.calls (step p s e).1.numbers n (k + (if b then 1 else 0))
      at false q = let z = other_step p limit n s h e k i in record { few = (let f = z.few in omega arith); open' = λ c m w. (let f = z.open' c m w in omega arith); later = λ l. (let f = z.later l in omega arith) }
      at true q =
          let route = as_route e (and_parts _ _ q).0 in
          subst (λ e. IsCounted limit (step p s e).1.calls (step p s e).1.numbers n (k + 1)) (sym route)
          (by_refusal (refusal p s (Route n)) refl (subst (λ e. is_counted n e (step p s e).0 ≡ true) route q))

module _ (p : Plan) (ok : IsPlan p) (ranks : Ranks) (limit spare : ℕ) (cert : IsCertified p ranks limit spare) (n : ℕ) where
  few_in : (s : State) → Holds p s → AllRanked p (λ n. ranks) s.calls → (events : List Event) → (k : ℕ) → IsCounted limit s.calls s.numbers n k → routes_of n (run p s events) + k ≤ 2 * limit + 3
  few_in s h r [] k i = let f = i.few in omega arith
  few_in s h r (e ∷ events) k i =
      let led = all_led p ranks limit spare cert s.calls r in
      let j = few_in (step p s e).1 (step_keeps p ok s h e) (step_ranked p (λ n. ranks) limit spare s h led e) events _ (counted_step p (λ n. ranks) limit spare n s h led e k i) in
      at (is_counted n e (step p s e).0) j
    where
      at : (b : Bool) → routes_of n (run p (step p s e).1 events) + (k + (if b then 1 else 0)) ≤ 2 * limit + 3 → (if b then 1 else 0) + routes_of n (run p (step p s e).1 events) + k ≤ 2 * limit + 3
      at true j = omega arith
      at false j = omega arith

pub few_routes : (p : Plan) → IsPlan p → (ranks : Ranks) (limit spare : ℕ) → IsCertified p ranks limit spare → HasFewRoutes p limit
few_routes p ok ranks limit spare cert numbers count events n =
    let r : AllRanked p (λ n. ranks) [] = λ c m. elim m [ ] in
    let b = few_in p ok ranks limit spare cert n (opening numbers count) (inv_opening p numbers) r events 0 (record { few = omega arith; open' = λ c m. elim m [ ]; later = λ l. refl }) in
    omega arith
