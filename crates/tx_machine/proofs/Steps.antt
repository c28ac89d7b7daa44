-- Each step keeps the invariant.
use Rattle.tx_machine.proofs.Common.{◌≡◌, ℕ, suc, ◌+◌, ◌==◌, Bool, true, false, not, ◌&&◌, ◌||◌, List, [], ◌∷◌, ◌++◌, inl, inr, Option, Some, None, refl, sym, ap, ◌∙◌, subst, eqb-true, arith, false≢true, true≢false, and_parts, not-true, not-false, eqb-false, if◌then◌else◌, find, slice_get, is_some, unwrap_or, option_and_then, enumerate_from, AllByRecursion, option_map, option_map_or, longest_among, IsPlan, IsRoute, is_line, first_true, after, is_prefix, codes_before, longest, code_of, route_list, is_barred, Among, Circuit, Line, filter_among, Event, Key, Route, Confirm, Clear, Released, Fail, Restore, Block, Unblock, CircuitOut, CircuitIn, LineFault, LineMend, LineAway, LineBack, Service, Occ, Nc, Np, Der, Abs, Na, Refusal, Reply, Answered, Phase, Standing, Calling, Connected, Call, exchange_of, call_of, is_standing, is_numbered, is_first, State, first_free, choice, seizes, seizes_from, is_engaged, line_answer, is_other, refusals, refusal, end_calls, at_line, at_trunk, line_of, routed_for, far_of, collide, second_time, confirmed_by, rival, confirmed, with_call, accepted, counted, unless_refused, step, cause_by, Holds}
use Rattle.std.specs.FinSet as set
use Rattle.tx_plan.specs.Plan.{Plan, Code, Group, Route as RouteRow, home_of, figures_of}
use Rattle.tx_plan.proofs.Fronts.{after-is}
use Rattle.tx_plan.specs.Circuits.{far_end, other_end, may_seize, is_both}
use Rattle.tx_machine.specs.declared.cause.Cause.TheVariants.{Service as ByService}
use Rattle.tx_machine.proofs.Lists.{find_mem}
use Rattle.tx_machine.proofs.Uses.{first_in-is, chosen, calling_on}
use Rattle.tx_machine.proofs.Changes.{key_keeps, end_keeps, fail_keeps, release_keeps, connect_keeps, seize_keeps, carry_keeps, collide_keeps}

-- no refusal: each test is false
pub tests_false : (ts : List (Bool × Refusal)) → first_true ts ≡ None → AllByRecursion (λ t. t.0 ≡ false) ts
tests_false [] h = tt
tests_false ((b, r) ∷ ts) h =
    elim b as (λ c. (if c then Some r else first_true ts) ≡ None → (c ≡ false) × AllByRecursion (λ t. t.0 ≡ false) ts) [
      | true ↦ λ e. let bad : ⊥ = cc in absurd bad
      | false ↦ λ e. (refl, tests_false ts e)
    ] h

pub all_mem : {A : Type 0} (P : A → Type 0) (xs : List A) (x : A) → AllByRecursion P xs → Among x xs → P x
all_mem P [] x a m = elim m [ ]
all_mem P (y ∷ ys) x a (inl e) = subst P e a.0
all_mem P (y ∷ ys) x a (inr m) = all_mem P ys x a.1 m

-- THE KEYED CODE
pub prefix-is : (front text : List ℕ) → is_prefix front text ≡ true → front ++ unwrap_or (after front text) [] ≡ text
prefix-is front text h = at (after front text) refl h
  where
    at : (o : Option (List ℕ)) → after front text ≡ o → is_some o ≡ true → front ++ unwrap_or o [] ≡ text
    at None e h = absurd (false≢true h)
    at (Some rest) e h = after-is front text rest e

pub enumerated : (n : ℕ) (cs : List Code) (e : ℕ × Code) → Among e (enumerate_from n cs) → (k : ℕ) × (e.0 ≡ n + k) × (slice_get cs k ≡ Some e.1)
enumerated n [] e m = elim m [ ]
enumerated n (c ∷ cs) e (inl q) = (0, (let f = ap (λ (z : ℕ × Code). z.0) q in omega arith), ap (λ (z : ℕ × Code). Some z.1) q)
enumerated n (c ∷ cs) e (inr m) = let r = enumerated (n + 1) cs e m in (suc r.0, (let f = r.1 in omega arith), r.2)

-- the code of keyed figures begins them
pub code_begins : (p : Plan) (keyed : List ℕ) (i : ℕ) → code_of p keyed ≡ Some i → is_prefix (figures_of p i) keyed ≡ true
code_begins p keyed i h = at (longest (codes_before p keyed)) refl h
  where
    at : (o : Option (ℕ × Code)) → longest (codes_before p keyed) ≡ o → option_map (λ e. e.0) o ≡ Some i → is_prefix (figures_of p i) keyed ≡ true
    at None e h = let bad : ⊥ = cc in absurd bad
    at (Some d) e h =
        let m = filter_among (λ e. is_prefix e.1.figures keyed) d (enumerate_from 0 p.codes) (longest_among (codes_before p keyed) d e) in
        let r = enumerated 0 p.codes d m.0 in
        let same : d.0 ≡ i = cc in
        let index : r.0 ≡ i = (let f = r.1 in omega arith) in
        let row : slice_get p.codes i ≡ Some d.1 = subst (λ k. slice_get p.codes k ≡ Some d.1) index r.2 in
        subst (λ o. is_prefix (option_map_or (λ c. c.figures) o []) keyed ≡ true) (sym row) m.1

-- ROUTES

-- the route whose list has a group
pub row_of : (rs : List RouteRow) (x c g : ℕ) → Among g (option_map_or (λ r. r.groups) (find (λ r. (r.exchange == x) && (r.code == c)) rs) []) → (r : RouteRow) × Among r rs × (r.exchange ≡ x) × Among g r.groups
row_of rs x c g m = at (find (λ r. (r.exchange == x) && (r.code == c)) rs) refl m
  where
    at : (o : Option RouteRow) → find (λ r. (r.exchange == x) && (r.code == c)) rs ≡ o → Among g (option_map_or (λ r. r.groups) o []) → (r : RouteRow) × Among r rs × (r.exchange ≡ x) × Among g r.groups
    at None e m = elim m [ ]
    at (Some r) e m = let f = find_mem (λ r. (r.exchange == x) && (r.code == c)) rs r e in (r, f.0, eqb-true _ _ (and_parts _ _ f.1).0, m)

-- the groups of a list may be seized where it is used
pub listed_may : (p : Plan) → IsPlan p → (x c g : ℕ) → Among g (route_list p x c) → may_seize p g x ≡ true
listed_may p ok x c g m =
    let r = row_of p.routes x c g m in
    let may = all_mem (λ g. may_seize p g r.0.exchange ≡ true) r.0.groups g (all_mem (IsRoute p) p.routes r.0 ok.routes r.1).outgoing r.3 in
    subst (λ x. may_seize p g x ≡ true) r.2 may

-- and so they lead on from there
pub listed_leads : (p : Plan) → IsPlan p → (x c g : ℕ) → Among g (route_list p x c) → (y : ℕ) × (other_end p g x ≡ Some y)
listed_leads p ok x c g m = at (slice_get p.groups g) (listed_may p ok x c g m)
  where
    at : (o : Option Group) → option_map_or (λ r. (r.a == x) || (is_both r.direction && (r.b == x))) o false ≡ true → (y : ℕ) × (option_and_then (λ r. far_end r x) o ≡ Some y)
    at None h = absurd (false≢true h)
    at (Some r) h =
        elim (r.a == x) as (λ b. (b || (is_both r.direction && (r.b == x))) ≡ true → (y : ℕ) × ((if b then Some r.b else if r.b == x then Some r.a else None) ≡ Some y)) [
          | true ↦ λ t. (r.b, refl)
          | false ↦ λ t. (r.a, ap (λ b. if b then Some r.a else None) (and_parts (is_both r.direction) (r.b == x) t).1)
        ] h

-- LINES
pub free_line : (p : Plan) (s : State) (l : Line) → line_answer p s l ≡ None → (is_line p l ≡ true) × (is_engaged s l ≡ false)
free_line p s l h =
    elim (is_line p l) as (λ a. (if not a then Some Np else if set.contains s.faulty l then Some Der else if set.contains s.away l then Some Abs else if is_engaged s l then Some Occ else None) ≡ None → (a ≡ true) × (is_engaged s l ≡ false)) [
      | false ↦ λ e. let bad : ⊥ = cc in absurd bad
      | true ↦ elim (set.contains s.faulty l) as (λ b. (if b then Some Der else if set.contains s.away l then Some Abs else if is_engaged s l then Some Occ else None) ≡ None → (true ≡ true) × (is_engaged s l ≡ false)) [
        | true ↦ λ e. let bad : ⊥ = cc in absurd bad
        | false ↦ elim (set.contains s.away l) as (λ b. (if b then Some Abs else if is_engaged s l then Some Occ else None) ≡ None → (true ≡ true) × (is_engaged s l ≡ false)) [
          | true ↦ λ e. let bad : ⊥ = cc in absurd bad
          | false ↦ elim (is_engaged s l) as (λ b. (if b then Some Occ else None) ≡ None → (true ≡ true) × (b ≡ false)) [ true ↦ λ e. let bad : ⊥ = cc in absurd bad | false ↦ λ e. (refl, refl) ]
        ]
      ]
    ] h

-- a phase that is no other than standing
pub stands : (phase : Phase) → not (is_standing phase) ≡ false → phase ≡ Standing
stands Standing e = refl
stands (Calling x) e = absurd (true≢false e)
stands (Connected l) e = absurd (true≢false e)

-- THE EVENTS
module _ (p : Plan) (ok : IsPlan p) (s : State) (h : Holds p s) where
  module _ (c : Call) (m : Among c s.calls) where
    line_keeps : (code : ℕ) → code_of p c.keyed ≡ Some code → (home_of p code == exchange_of p c) ≡ true → (o : Option Service) → line_answer p s (line_of p code c.keyed) ≡ o → Holds p (at_line p s c (line_of p code c.keyed) o).1
    line_keeps code e here None a =
        let f = free_line p s (line_of p code c.keyed) a in
        connect_keeps p s h c m (line_of p code c.keyed) (record { known = f.0; at_home = sym (eqb-true _ _ here); keyed = prefix-is (figures_of p code) c.keyed (code_begins p c.keyed code e) }) f.1
    line_keeps code e here (Some service) a = end_keeps p s h (ByService service) (is_numbered c.number)

    trunk_keeps : (code : ℕ) → c.phase ≡ Standing → (o : Option Circuit) → choice p s (exchange_of p c) code ≡ o → Holds p (at_trunk p s c o).1
    trunk_keeps code stands None a = end_keeps p s h (ByService Nc) (is_numbered c.number)
    trunk_keeps code stands (Some x) a =
        let r = first_in-is (first_free p s (exchange_of p c)) (route_list p (exchange_of p c) code) x a in
        let f = chosen p s (exchange_of p c) r.0 x r.2 in
        let to = listed_leads p ok (exchange_of p c) code r.0 r.1 in
        seize_keeps p s h c m x to.0 stands f.planned (ap (λ g. other_end p g (exchange_of p c)) f.group ∙ to.1) f.free

    route_keeps : c.phase ≡ Standing → (o : Option ℕ) → code_of p c.keyed ≡ o → Holds p (routed_for p s c o).1
    route_keeps stands None e = end_keeps p s h (ByService Np) (is_numbered c.number)
    route_keeps stands (Some code) e =
        elim (is_first c.hops && is_barred p (exchange_of p c) code) as (λ b. Holds p (if b then answer Na else if home_of p code == exchange_of p c then line else trunk).1) [
          | true ↦ end_keeps p s h (ByService Na) (is_numbered c.number)
          | false ↦ elim (home_of p code == exchange_of p c) as (λ b. (home_of p code == exchange_of p c) ≡ b → Holds p (if b then line else trunk).1) [
            | true ↦ λ here. line_keeps code e here _ refl
            | false ↦ λ away. trunk_keeps code stands _ refl
          ] refl
        ]
      where
        answer : Service → Reply × State
        answer service = (Answered service, end_calls p (ByService service) (is_numbered c.number) s)

        line : Reply × State
        line = at_line p s c (line_of p code c.keyed) (line_answer p s (line_of p code c.keyed))

        trunk : Reply × State
        trunk = at_trunk p s c (choice p s (exchange_of p c) code)

    meet_keeps : (x : Circuit) → c.phase ≡ Calling x → (o : Option Call) → rival p s c x ≡ o → Holds p (confirmed_by p s c x o).1
    meet_keeps x calls None e =
        let to = (h.each c m).calling x calls in
        carry_keeps p s h c m x (far_of p c x) calls (to.1 ∙ ap Some (sym (ap (λ o. unwrap_or o 0) to.1))) e
    meet_keeps x calls (Some d) e =
        let r = find_mem (λ d. not (d.number == c.number) && seizes_from p d x (far_of p c x)) s.calls d e in
        let t = and_parts (not (d.number == c.number)) (seizes_from p d x (far_of p c x)) r.1 in
        end_keeps p (collide c.number d.number x s) (collide_keeps p s h c d m r.0 x (eqb-false _ _ (not-true _ t.0)) calls (calling_on d.phase x (and_parts (seizes d x) (exchange_of p d == far_of p c x) t.1).0)) (ByService Nc) (second_time c d)

    confirm_keeps : (phase : Phase) → c.phase ≡ phase → Holds p (confirmed p s c phase).1
    confirm_keeps Standing e = h
    confirm_keeps (Calling x) e = meet_keeps x e _ refl
    confirm_keeps (Connected l) e = h

  -- an event on a call
  with_keeps : (n : ℕ) (act : Call → Reply × State) → ((c : Call) → Among c s.calls → call_of n s.calls ≡ Some c → Holds p (act c).1) → Holds p (with_call (call_of n s.calls) s act).1
  with_keeps n act each = at (call_of n s.calls) refl
    where
      at : (o : Option Call) → call_of n s.calls ≡ o → Holds p (with_call o s act).1
      at None e = h
      at (Some c) e = each c (find_mem (λ c. c.number == n) s.calls c e).0 e

pub accepted_keeps : (p : Plan) → IsPlan p → (s : State) → Holds p s → (e : Event) → refusal p s e ≡ None → Holds p (accepted p s e).1
accepted_keeps p ok s h (Key line keyed) none =
    let t = tests_false (refusals p s (Key line keyed) ++ _ ∷ []) none in
    key_keeps p s h line keyed _ (not-false _ t.0) t.1.0
accepted_keeps p ok s h (Route n) none =
    let t = tests_false (refusals p s (Route n) ++ _ ∷ []) none in
    with_keeps p ok s h n _ (λ c m e. route_keeps p ok s h c m (stands c.phase (subst (λ o. is_other is_standing o ≡ false) e t.1.0)) _ refl)
accepted_keeps p ok s h (Confirm n) none = with_keeps p ok s h n _ (λ c m e. confirm_keeps p ok s h c m _ refl)
accepted_keeps p ok s h (Clear n party) none = end_keeps p s h (cause_by party) (is_numbered n)
accepted_keeps p ok s h (Released x) none = release_keeps p s h x
accepted_keeps p ok s h (Fail g) none = fail_keeps p s h g
accepted_keeps p ok s h (Restore g) none = h
accepted_keeps p ok s h (Block g) none = h
accepted_keeps p ok s h (Unblock g) none = h
accepted_keeps p ok s h (CircuitOut x) none = h
accepted_keeps p ok s h (CircuitIn x) none = h
accepted_keeps p ok s h (LineFault l) none = h
accepted_keeps p ok s h (LineMend l) none = h
accepted_keeps p ok s h (LineAway l) none = h
accepted_keeps p ok s h (LineBack l) none = h

pub step_keeps : (p : Plan) → IsPlan p → (s : State) → Holds p s → (e : Event) → Holds p (step p s e).1
step_keeps p ok s h e = at (refusal p s e) refl
  where
    at : (o : Option Refusal) → refusal p s e ≡ o → Holds p (unless_refused o s (counted (accepted p s e))).1
    at (Some r) q = h
    at None q = accepted_keeps p ok s h e q
