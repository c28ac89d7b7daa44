-- Replies where groups are blocked, and in the plan that is left.
use Rattle.tx_trace.proofs.Common.{◌≡◌, ◌≢◌, ℕ, Bool, true, false, cond, not, ◌||◌, ◌==◌, ◌&&◌, List, [], ◌∷◌, find, length, Option, Some, None, refl, sym, ap, ◌∙◌, arith, if◌then◌else◌, is_some, AllByRecursion, option_map_or, nat_cmp, EachPair, IsPlan, route_list, is_barred, circuits_at, code_of, Circuit, Line, Event, Reply, Service, first_free, first_in, choice, is_free_at, line_answer, replies, State, is_in}
use Rattle.std.specs.FinSet as set
use Rattle.std.proofs.lemmas.Bool.{and_parts, eqb-true, false≢true, not-false}
use Rattle.tx_plan.specs.Plan.{Plan, Route as RouteRow, home_of}
use Rattle.tx_machine.specs.declared.event.Event.TheVariants.{Key, Route, Confirm, Clear, Released, Fail, Restore, Block, Unblock, CircuitOut, CircuitIn, LineFault, LineMend, LineAway, LineBack}
use Rattle.tx_machine.specs.declared.open_call.Party.TheVariants.{Caller, Called}
use Rattle.tx_machine.specs.declared.open_call.Phase.{Phase}
use Rattle.tx_machine.specs.declared.open_call.Phase.TheVariants.{Standing, Calling, Connected}
use Rattle.tx_machine.specs.declared.refusal.Refusal.{Refusal}
use Rattle.tx_machine.specs.declared.cause.Service.TheVariants.{Na}
use Rattle.tx_machine.specs.Call.{Call, call_of, exchange_of, is_first}
use Rattle.tx_machine.specs.Confirming.{confirmed, confirmed_by, rival}
use Rattle.tx_machine.specs.Refusals.{refusal}
use Rattle.tx_machine.specs.Routing.{routed, routed_for, at_line, at_trunk, line_of}
use Rattle.tx_machine.specs.Step.{step, accepted, counted, unless_refused, with_call}
use Rattle.tx_trace.specs.Left.{groups_left, route_left, routes_left, plan_left, AreBlocked, unblocked, is_blocking}
use Rattle.tx_trace.proofs.LeftRoutes.{has_some}

-- THE LIST OF AN EXCHANGE FOR A CODE
module _ (down : List ℕ) (x c : ℕ) where
  abbrev here : RouteRow → Bool
  here r = (r.exchange == x) && (r.code == c)

  abbrev groups_of : Option RouteRow → List ℕ
  groups_of o = option_map_or (λ r. r.groups) o []

  abbrev found : List RouteRow → List ℕ
  found rs = groups_of (find here rs)

  abbrev Apart : RouteRow → RouteRow → Type 0
  Apart r q = r.exchange ≡ q.exchange → r.code ≢ q.code

  -- no other route is of the exchange and the code
  none_other : (r : RouteRow) (rs : List RouteRow) → here r ≡ true → AllByRecursion (Apart r) rs
      → found (routes_left down rs) ≡ []
  none_other r [] is apart = refl
  none_other r (q ∷ rs) is apart =
      let rest = none_other r rs is apart.1 in
      let other : here q ≡ false = by (here q) refl in
      elim (has_some (route_left down q)) as (λ b. found (cond b (route_left down q
      ∷ routes_left down rs) (routes_left down rs)) ≡ []) [
        | true ↦ ap (λ b. groups_of (cond b (Some (route_left down q))
            (find here (routes_left down rs)))) other ∙ rest
        | false ↦ rest
      ]
    where
      by : (b : Bool) → here q ≡ b → here q ≡ false
      by false e = e
      by true e =
          let a = and_parts (r.exchange == x) (r.code == c) is in
          let d = and_parts (q.exchange == x) (q.code == c) e in
          absurd (apart.0 (eqb-true r.exchange x a.0 ∙ sym (eqb-true q.exchange x d.0))
          (eqb-true r.code c a.1 ∙ sym (eqb-true q.code c d.1)))

  found_left : (rs : List RouteRow) → EachPair Apart rs
      → found (routes_left down rs) ≡ groups_left down (found rs)
  found_left [] apart = refl
  found_left (r ∷ rs) apart =
      let left = route_left down r in
      let rest = found_left rs apart.1 in
      elim (here r) as (λ h. here r ≡ h → found (cond (has_some left) (left ∷ routes_left down rs)
      (routes_left down rs)) ≡ groups_left down (groups_of (cond h (Some r) (find here rs)))) [
        | true ↦ λ is. by (has_some left) refl is
        | false ↦ λ is.
            elim (has_some left) as (λ b. found (cond b (left ∷ routes_left down rs)
            (routes_left down rs)) ≡ groups_left down (found rs)) [
              | true ↦ ap (λ h. groups_of (cond h (Some left) (find here (routes_left down rs)))) is
                  ∙ rest
              | false ↦ rest
            ]
      ] refl
    where
      none_of : (gs : List ℕ) → not (length gs == 0) ≡ false → gs ≡ []
      none_of [] e = refl
      none_of (g ∷ gs) e =
          let none = eqb-true (length (g ∷ gs)) 0 (not-false (length (g ∷ gs) == 0) e) in
          absurd (omega arith)

      by : (b : Bool) → has_some (route_left down r) ≡ b → here r ≡ true
          → found (cond b (route_left down r ∷ routes_left down rs) (routes_left down rs))
          ≡ groups_left down r.groups
      by true some is =
          ap (λ h. groups_of (cond h (Some (route_left down r)) (find here (routes_left down rs)))) is
      by false none is =
          none_other r rs is apart.0 ∙ sym (none_of (groups_left down r.groups) none)

pub list_left : (p : Plan) (down : List ℕ) (x c : ℕ) → IsPlan p
    → route_list (plan_left p down) x c ≡ groups_left down (route_list p x c)
list_left p down x c ok = found_left down x c p.routes ok.routes_differ

-- WHAT A CALL CHOOSES
module _ (p : Plan) (ok : IsPlan p) (down : List ℕ) where
  abbrev q : Plan
  q = plan_left p down

  module _ (s : State) (blocked : AreBlocked s down) where
    module _ (x : ℕ) where
      -- a group that is down has no circuit, and another one has the same as before
      none_down : (g : ℕ) → is_in g down ≡ true → first_free p s x g ≡ None
      none_down g is = by (set.contains s.failed g)
        where
          by : (failed : Bool) → (if failed || set.contains s.blocked g then None
              else find (is_free_at p s x) (circuits_at p g x)) ≡ None
          by true = refl
          by false =
              ap (λ b. if b then None else find (is_free_at p s x) (circuits_at p g x))
              (blocked g ∙ is)

      same_up : (g : ℕ) → is_in g down ≡ false
          → first_free q (unblocked s) x g ≡ first_free p s x g
      same_up g is =
          ap (λ b. if set.contains s.failed g || b then None
          else find (is_free_at p s x) (circuits_at p g x))
          (set.contains-empty nat_cmp g ∙ sym (blocked g ∙ is))

      first_left : (gs : List ℕ) → first_in (first_free q (unblocked s) x) (groups_left down gs)
          ≡ first_in (first_free p s x) gs
      first_left [] = refl
      first_left (g ∷ gs) =
          let rest = first_left gs in
          let look = first_free q (unblocked s) x in
          elim (is_in g down) as (λ b. is_in g down ≡ b → first_in look (cond (not b)
          (g ∷ groups_left down gs) (groups_left down gs)) ≡ first_in (first_free p s x) (g ∷ gs)) [
            | true ↦ λ is. rest ∙ sym (ap (λ (o : Option Circuit). if is_some o then o
                else first_in (first_free p s x) gs) (none_down g is))
            | false ↦ λ is. ap (λ (o : Option Circuit). if is_some o then o
                else first_in look (groups_left down gs)) (same_up g is)
                ∙ ap (λ (o : Option Circuit). if is_some (first_free p s x g)
                then first_free p s x g else o) rest
          ] refl

      choice_left : (c : ℕ) → choice q (unblocked s) x c ≡ choice p s x c
      choice_left c =
          ap (first_in (first_free q (unblocked s) x)) (list_left p down x c ok)
          ∙ first_left (route_list p x c)

    -- WHAT AN EVENT DOES
    abbrev AsLeft : Reply × State → Reply × State → Type 0
    AsLeft l r = (l ≡ (r.0, unblocked r.1)) × (r.1.blocked ≡ s.blocked)

    trunk_left : (c : Call) (o : Option Circuit)
        → AsLeft (at_trunk q (unblocked s) c o) (at_trunk p s c o)
    trunk_left c None = (refl, refl)
    trunk_left c (Some x) = (refl, refl)

    line_left : (c : Call) (l : Line) (o : Option Service)
        → AsLeft (at_line q (unblocked s) c l o) (at_line p s c l o)
    line_left c l None = (refl, refl)
    line_left c l (Some service) = (refl, refl)

    routed_left : (c : Call) (code : Option ℕ)
        → AsLeft (routed_for q (unblocked s) c code) (routed_for p s c code)
    routed_left c None = (refl, refl)
    routed_left c (Some code) =
        let x = exchange_of p c in
        let l = line_of p code c.keyed in
        let trunk : AsLeft (at_trunk q (unblocked s) c (choice q (unblocked s) x code))
        (at_trunk p s c (choice p s x code)) =
        let t = trunk_left c (choice p s x code) in
        (ap (at_trunk q (unblocked s) c) (choice_left x code) ∙ t.0, t.1) in
        elim (is_first c.hops && is_barred p x code) as (λ barred. AsLeft
        (if barred then at_line q (unblocked s) c l (Some Na)
        else if home_of p code == x then at_line q (unblocked s) c l (line_answer p s l)
        else at_trunk q (unblocked s) c (choice q (unblocked s) x code))
        (if barred then at_line p s c l (Some Na)
        else if home_of p code == x then at_line p s c l (line_answer p s l)
        else at_trunk p s c (choice p s x code))) [
          | true ↦ (refl, refl)
          | false ↦
              elim (home_of p code == x) as (λ home. AsLeft
              (if home then at_line q (unblocked s) c l (line_answer p s l)
              else at_trunk q (unblocked s) c (choice q (unblocked s) x code))
              (if home then at_line p s c l (line_answer p s l)
              else at_trunk p s c (choice p s x code))) [
                | true ↦ line_left c l (line_answer p s l)
                | false ↦ trunk
              ]
        ]

    confirmed_left : (c : Call) (phase : Phase)
        → AsLeft (confirmed q (unblocked s) c phase) (confirmed p s c phase)
    confirmed_left c Standing = (refl, refl)
    confirmed_left c (Connected l) = (refl, refl)
    confirmed_left c (Calling x) = by (rival p s c x)
      where
        by : (o : Option Call)
            → AsLeft (confirmed_by q (unblocked s) c x o) (confirmed_by p s c x o)
        by None = (refl, refl)
        by (Some d) = (refl, refl)

    with_left : (o : Option Call) (act other : Call → Reply × State)
        → ((c : Call) → AsLeft (act c) (other c))
        → AsLeft (with_call o (unblocked s) act) (with_call o s other)
    with_left None act other each = (refl, refl)
    with_left (Some c) act other each = each c

    accepted_left : (e : Event) → is_blocking e ≡ false
        → AsLeft (accepted q (unblocked s) e) (accepted p s e)
    accepted_left (Key line keyed) h = (refl, refl)
    accepted_left (Route n) h =
        with_left (call_of n s.calls) (λ c. routed q (unblocked s) c) (λ c. routed p s c)
        (λ c. routed_left c (code_of p c.keyed))
    accepted_left (Confirm n) h =
        with_left (call_of n s.calls) (λ c. confirmed q (unblocked s) c c.phase)
        (λ c. confirmed p s c c.phase) (λ c. confirmed_left c c.phase)
    accepted_left (Clear n party) h = (refl, refl)
    accepted_left (Released x) h = (refl, refl)
    accepted_left (Fail g) h = (refl, refl)
    accepted_left (Restore g) h = (refl, refl)
    accepted_left (Block g) h = absurd (false≢true (sym h))
    accepted_left (Unblock g) h = absurd (false≢true (sym h))
    accepted_left (CircuitOut x) h = (refl, refl)
    accepted_left (CircuitIn x) h = (refl, refl)
    accepted_left (LineFault l) h = (refl, refl)
    accepted_left (LineMend l) h = (refl, refl)
    accepted_left (LineAway l) h = (refl, refl)
    accepted_left (LineBack l) h = (refl, refl)

    refusal_left : (e : Event) → is_blocking e ≡ false → refusal q (unblocked s) e ≡ refusal p s e
    refusal_left e h = grind arith

    unless_left : (o : Option Refusal) (l r : Reply × State) → AsLeft l r
        → AsLeft (unless_refused o (unblocked s) (counted l)) (unless_refused o s (counted r))
    unless_left (Some refused) l r a = (refl, refl)
    unless_left None l r a = (ap counted a.0, a.1)

    step_left : (e : Event) → is_blocking e ≡ false → AsLeft (step q (unblocked s) e) (step p s e)
    step_left e h =
        let a = unless_left (refusal p s e) (accepted q (unblocked s) e) (accepted p s e)
        (accepted_left e h) in (
          ap (λ o. unless_refused o (unblocked s) (counted (accepted q (unblocked s) e)))
              (refusal_left e h) ∙ a.0,
          a.1,
        )

  -- ONE EVENT AFTER ANOTHER
  pub replies_left : (events : List Event) (s : State) → AreBlocked s down
      → AllByRecursion (λ e. is_blocking e ≡ false) events
      → replies p s events ≡ replies q (unblocked s) events
  replies_left [] s blocked others = refl
  replies_left (e ∷ events) s blocked others =
      let here = step_left s blocked e others.0 in
      let next = (step p s e).1 in
      let rest = replies_left events next
      (λ g. ap (λ b. set.contains b g) here.1 ∙ blocked g) others.1 in
      sym (ap (λ (r : Reply × State). r.0 ∷ replies q r.1 events) here.0
      ∙ ap (λ rs. (step p s e).0 ∷ rs) (sym rest))
