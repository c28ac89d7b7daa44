-- The events of a true finding show it.
use Rattle.std.proofs.Common.{◌≡◌, ◌≢◌, ℕ, ◌+◌, ◌*◌, ◌<◌, ◌≤◌, ◌==◌, true, false, not, List, [], ◌∷◌, ◌++◌, inl, inr, map, length, Some, None, refl, sym, ap, ◌∙◌, subst, arith, append_assoc}
use Rattle.tx_audit.proofs.Common.{same_Some, and_parts, not-true, length-map, if◌then◌else◌, filter, is_some, AllByRecursion, option_map, nat_cmp, Plan, home_of, figures_of, IsPlan, code_of, Line, Among, Finding, Ambiguous, Loop, Short, Long, IsTrueOf, Event, Hop, Standing, State, opening, first_free, choice, NoneTwice, all_mem, first_line, walk_events, shut_events, walked_by, events_along, turns_on_one, counter_of, has_counter, Groups, AllUp, Plays, plays_none, plays_first, plays_one, plays_then, shut, shut_among}
use Rattle.std.specs.FinSet as set
use Rattle.tx_plan.specs.Routes.{route_list, is_barred, is_origin}
use Rattle.tx_rank.specs.Walks.{Walk, AllDiffer, IsWalk, IsLoop, IsShort, IsLong, net_of, end_of, before_end, passed as walk_passed}
use Rattle.tx_machine.specs.declared.event.Event.TheVariants.{Key, Route, Block}
use Rattle.tx_machine.specs.declared.reply.Reply.TheVariants.{Keyed, Answered}
use Rattle.tx_machine.specs.declared.cause.Service.TheVariants.{Nc}
use Rattle.tx_machine.specs.Call.{Call, exchange_of}
use Rattle.tx_machine.specs.Runs.{Moment, moment, run, state_after}
use Rattle.tx_machine.specs.Passed.{passed, transits, is_transit}
use Rattle.tx_machine.specs.Safe.{IsSafe, IsSafeCall}
use Rattle.tx_machine.specs.Excused.{IsExcused, FoundNone}
use Rattle.tx_machine.specs.Step.{step}
use Rattle.tx_machine.specs.Sound.{IsSound}
use Rattle.tx_audit.specs.Breaks.{PassesTwice, PassesMany, AnswersBare, Shows}
use Rattle.tx_machine.proofs.OneCall.{step_of, alone, on_way, IsPlaced, routed_there, key_step, nc_step, blocks}
use Rattle.tx_audit.proofs.Choices.{first_in_none, none_of}
use Rattle.tx_audit.proofs.Listed.{listed_once, listed_few, listed_known}
use Rattle.tx_audit.proofs.Walking.{IsOn, IfMore, walk_plays}
use Rattle.tx_audit.proofs.Starting.{caller, code_itself}
use Rattle.tx_audit.proofs.Sizes.{steps_few, walk_few}
use Rattle.tx_rank.proofs.PassedOnce.{before_once}
use Rattle.tx_audit.proofs.Passing.{passed_is, twice, no_turn, transits_are}

-- RUNS

-- what holds in every state of a run holds in its last one
last_state : (p : Plan) (Holds : State → Type 0) (s : State) (es : List Event) → Holds s → AllByRecursion (λ m. Holds m.after) (run p s es) → Holds (state_after p s es)
last_state p Holds s [] h all = h
last_state p Holds s (e ∷ es) h all = last_state p Holds (step p s e).1 es all.0 all.1

-- an event is a moment of its run
comes_last : (p : Plan) (s : State) (es : List Event) (e : Event) → Among (moment p (state_after p s es) e) (run p s (es ++ e ∷ []))
comes_last p s [] e = inl refl
comes_last p s (d ∷ es) e = inr (comes_last p (step p s d).1 es e)

-- NO SOUND PLAN

module _ (p : Plan) (limit spare : ℕ) (events : List Event) (sound : IsSound p limit spare) where
  safe_after : IsSafe p limit (state_after p (opening 0 0) events)
  safe_after = let s = sound.safe 0 0 events in last_state p (IsSafe p limit) (opening 0 0) events s.0 s.1

  unsound_twice : PassesTwice p (state_after p (opening 0 0) events) → ⊥
  unsound_twice b = b.twice (all_mem (IsSafeCall p limit) (state_after p (opening 0 0) events).calls b.call safe_after.calls b.open').once

  unsound_many : PassesMany p limit (state_after p (opening 0 0) events) → ⊥
  unsound_many b = let f = (all_mem (IsSafeCall p limit) (state_after p (opening 0 0) events).calls b.call safe_after.calls b.open').few in let m = b.many in omega arith

  unsound_bare : AnswersBare p spare (opening 0 0) events → ⊥
  unsound_bare b = b.bare (all_mem (λ (m : Moment). IsExcused p spare m.before m.event m.reply) (run p (opening 0 0) events) b.moment (sound.excused 0 0 events) b.comes)

-- A WALK FROM ITS START

on_start : (p : Plan) (x : ℕ) (steps : List (ℕ × ℕ)) → IfMore steps (IsOn p x [] [] None)
on_start p x [] = tt
on_start p x (s ∷ steps) = record { each = λ h m. elim m [ ]; back = λ h m e. elim m [ ] }

far_steps : (hops : List Hop) → map (λ s. s.1) (map step_of hops) ≡ map (λ h. h.far) hops
far_steps [] = refl
far_steps (h ∷ hops) = ap (λ l. h.far ∷ l) (far_steps hops)

-- the call has gone along a walk for the code c
pub record Gone (p : Plan) (c x : ℕ) (steps : List (ℕ × ℕ)) : Type 0 where
  pub line : Line
  pub first : first_line p x ≡ Some line
  pub home : home_of p line.code ≡ x
  pub hops : List Hop
  pub way : map step_of hops ≡ steps
  pub fars : map (λ h. h.far) hops ≡ map (λ s. s.1) steps
  pub blocked : Groups
  pub up : AllUp blocked
  pub placed : IsPlaced p line (figures_of p c) hops c (end_of x steps)
  pub count : ℕ
  pub few : count ≤ 1 + 34 * 256
  pub plays : Plays p (opening 0 0) (Key line (figures_of p c) ∷ walk_events p c x steps) (alone (on_way line (figures_of p c) hops Standing) blocked count)

module _ (p : Plan) (ok : IsPlan p) (c : ℕ) (within : c < length p.codes) (x : ℕ) (steps : List (ℕ × ℕ)) where
  pub gone : IsWalk (net_of p c) x steps → AllDiffer (before_end x steps) → turns_on_one p steps ≡ false → Gone p c x steps
  gone w once free =
      let o = and_parts (is_origin p x) (not (is_barred p x c)) w.origin in
      let k = caller p ok x o.0 in
      let keyed = figures_of p c in
      let placed : IsPlaced p k.line keyed [] c x = record { code' = code_itself p ok c within; at = k.home; admitted = not-true _ o.1 } in
      let s = steps_few p ok c within x steps w once in
      let f = walk_few p ok c within x steps in
      let r = walk_plays p ok c k.line keyed steps x [] [] None set.empty 1 placed w.goes once (λ u a m. a) (on_start p x steps) free (λ g. set.contains-empty nat_cmp g) (omega arith) in
      record {
        line = k.line;
        first = k.first;
        home = k.home;
        hops = r.gone;
        way = r.way;
        fars = sym (far_steps r.gone) ∙ ap (map (λ s. s.1)) r.way;
        blocked = r.blocked;
        up = r.up;
        placed = r.placed;
        count = 1 + length (walk_events p c x steps);
        few = omega arith;
        plays = plays_first p (opening 0 0) (alone (on_way k.line keyed [] Standing) set.empty 1) (alone (on_way k.line keyed r.gone Standing) r.blocked (1 + length (walk_events p c x steps))) (Key k.line keyed) (walk_events p c x steps) (Keyed 1)
            (key_step p k.line keyed k.known) refl r.plays;
      }

  module _ (g : Gone p c x steps) where
    abbrev keyed : List ℕ
    keyed = figures_of p c

    abbrev call : Call
    call = on_way g.line keyed g.hops Standing

    abbrev there : State
    there = alone call g.blocked g.count

    abbrev front : List Event
    front = Key g.line keyed ∷ walk_events p c x steps

    -- no more events
    plays_whole : Plays p (opening 0 0) (Key g.line keyed ∷ (walk_events p c x steps ++ [])) there
    plays_whole = plays_then p (opening 0 0) there there front [] g.plays (plays_none p there)

    call_passed : passed p call ≡ walk_passed x steps
    call_passed = ap (λ y. y ∷ map (λ (h : Hop). h.far) g.hops) g.home ∙ ap (λ l. x ∷ l) g.fars ∙ sym (passed_is x steps)

    -- LOOP
    passes_twice : Among (end_of x steps) (before_end x steps) → PassesTwice p there
    passes_twice again = record { call = call; open' = inl refl; twice = λ n. twice x steps again (subst (NoneTwice (λ y z. y == z)) call_passed n) }

    -- LONG
    call_transits : AllDiffer (walk_passed x steps) → IsWalk (net_of p c) x steps → end_of x steps ≢ home_of p c → transits p call ≡ map (λ s. s.1) steps
    call_transits once w away =
        ap (λ y. filter (is_transit p y (code_of p keyed)) (y ∷ map (λ (h : Hop). h.far) g.hops)) g.home
        ∙ ap (λ l. filter (is_transit p x (code_of p keyed)) (x ∷ l)) g.fars
        ∙ ap (λ o. filter (is_transit p x o) (x ∷ map (λ s. s.1) steps)) g.placed.code'
        ∙ transits_are p c x steps w.goes once away

    passes_many : (limit : ℕ) → IsLong (net_of p c) limit x steps → PassesMany p limit there
    passes_many limit h =
        let e = ap (λ (l : List ℕ). length l) (call_transits h.once h.walk h.away) in
        let m = length-map steps (λ (s : ℕ × ℕ). s.1) in
        let l = h.long in
        record { call = call; open' = inl refl; many = omega arith }

    -- SHORT
    abbrev end' : ℕ
    end' = end_of x steps

    abbrev list : List ℕ
    list = route_list p (end_of x steps) c

    abbrev closed : State
    closed = alone call (shut g.blocked list) (g.count + length list)

    plays_blocks : Plays p there (map Block list) closed
    plays_blocks = let f = listed_few p ok end' c in let l = g.few in blocks p call g.blocked g.count list (listed_known p ok end' c) (listed_once p ok end' c) (λ h m. g.up h) (omega arith)

    none_left : choice p closed end' c ≡ None
    none_left = first_in_none (first_free p closed end') list (λ h m. none_of p g.line keyed g.hops (shut g.blocked list) (g.count + length list) end' h (shut_among g.blocked list h m))

    answered_nc : end' ≢ home_of p c → (step p closed (Route 1)).0 ≡ Answered Nc
    answered_nc away =
        let f = listed_few p ok end' c in
        let l = g.few in
        nc_step p g.line keyed g.hops (shut g.blocked list) (g.count + length list) c end' (routed_there p g.line keyed g.hops c end' g.placed away) (omega arith) none_left

    bare : (spare : ℕ) → end' ≢ home_of p c → length list < spare + 1 → IsExcused p spare closed (Route 1) (step p closed (Route 1)).0 → ⊥
    bare spare away few h = found (subst (IsExcused p spare closed (Route 1)) (answered_nc away) h)
      where
        found : FoundNone p closed spare 1 → ⊥
        found n =
            let o = n.open' in
            let same : call ≡ n.call = cc in
            let k : code_of p keyed ≡ Some n.code = ap (λ (d : Call). code_of p d.keyed) same ∙ n.keyed in
            let k' = g.placed.code' in
            let code : n.code ≡ c = cc in
            let many = n.taken.many in
            let exchange : exchange_of p n.call ≡ end' = ap (exchange_of p) (sym same) ∙ g.placed.at in
            let e : length (route_list p (exchange_of p n.call) n.code) ≡ length list = ap (λ y. length (route_list p y n.code)) exchange ∙ ap (λ d. length (route_list p end' d)) code in
            omega arith

    plays_shut : end' ≢ home_of p c → Plays p (opening 0 0) (Key g.line keyed ∷ (walk_events p c x steps ++ (map Block list ++ (Route 1 ∷ [])))) (step p closed (Route 1)).1
    plays_shut away =
        plays_then p (opening 0 0) there (step p closed (Route 1)).1 front (map Block list ++ (Route 1 ∷ [])) g.plays
        (plays_then p there closed (step p closed (Route 1)).1 (map Block list) (Route 1 ∷ []) plays_blocks
        (plays_one p closed (step p closed (Route 1)).1 (Route 1) (Answered Nc) (λ i. (answered_nc away i, (step p closed (Route 1)).1)) refl))

    abbrev before_last : List Event
    before_last = Key g.line keyed ∷ (walk_events p c x steps ++ map Block list)

    answers_bare : (spare : ℕ) → IsShort (net_of p c) spare x steps → AnswersBare p spare (opening 0 0) (Key g.line keyed ∷ (walk_events p c x steps ++ (map Block list ++ (Route 1 ∷ []))))
    answers_bare spare h =
        let at : closed ≡ state_after p (opening 0 0) before_last = sym (plays_then p (opening 0 0) there closed front (map Block list) g.plays plays_blocks).leads in
        let same : before_last ++ (Route 1 ∷ []) ≡ Key g.line keyed ∷ (walk_events p c x steps ++ (map Block list ++ (Route 1 ∷ []))) = ap (λ l. Key g.line keyed ∷ l) (append_assoc (walk_events p c x steps) (map Block list) (Route 1 ∷ [])) in
        record {
          moment = moment p (state_after p (opening 0 0) before_last) (Route 1);
          comes = subst (λ es. Among (moment p (state_after p (opening 0 0) before_last) (Route 1)) (run p (opening 0 0) es)) same (comes_last p (opening 0 0) before_last (Route 1));
          reply = subst (λ t. (step p t (Route 1)).0 ≡ Answered Nc) at (answered_nc h.away);
          bare = subst (λ t. IsExcused p spare t (Route 1) (step p t (Route 1)).0 → ⊥) at (bare spare h.away h.few);
        }

-- THE EVENTS OF A FINDING

-- the events are those of the line that calls
events_are : (p : Plan) (c : ℕ) (w : Walk) (last events : List Event) (line : Line) → first_line p w.start ≡ Some line → events_along p c w last ≡ Some events → walked_by p c w last line ≡ events
events_are p c w last events line first e =
    let made : events_along p c w last ≡ Some (walked_by p c w last line) = ap (option_map (walked_by p c w last)) first in
    same_Some _ _ (sym made ∙ e)

module _ {A : Type 0} (p : Plan) (ok : IsPlan p) (limit spare : ℕ) where
  shows_loop : (c : ℕ) (w : Walk) (events : List Event) → c < length p.codes → IsLoop (net_of p c) w.start w.steps → turns_on_one p w.steps ≡ false → events_along p c w [] ≡ Some events → Shows {A = A} p limit spare (Loop c w) events
  shows_loop c w events within h free e =
      let g = gone p ok c within w.start w.steps h.walk h.once free in
      let same = events_are p c w [] events g.line g.first e in
      let play = plays_whole p ok c within w.start w.steps g in
      let b = subst (PassesTwice p) (sym play.leads) (passes_twice p ok c within w.start w.steps g h.again) in
      subst (Shows {A = A} p limit spare (Loop c w)) same
      (record { unrefused = play.unrefused; breaks = b; unsound = λ s. unsound_twice p limit spare (walked_by p c w [] g.line) s b })

  shows_short : (c : ℕ) (w : Walk) (events : List Event) → c < length p.codes → IsShort (net_of p c) spare w.start w.steps → events_along p c w (shut_events p c (end_of w.start w.steps)) ≡ Some events → Shows {A = A} p limit spare (Short c w) events
  shows_short c w events within h e =
      let g = gone p ok c within w.start w.steps h.walk (before_once w.start w.steps h.once) (no_turn p c w.start w.steps h.walk.goes h.once) in
      let last = shut_events p c (end_of w.start w.steps) in
      let same = events_are p c w last events g.line g.first e in
      let play = plays_shut p ok c within w.start w.steps g h.away in
      let b = answers_bare p ok c within w.start w.steps g spare h in
      subst (Shows {A = A} p limit spare (Short c w)) same
      (record { unrefused = play.unrefused; breaks = b; unsound = λ s. unsound_bare p limit spare (walked_by p c w last g.line) s b })

  shows_long : (c : ℕ) (w : Walk) (events : List Event) → c < length p.codes → IsLong (net_of p c) limit w.start w.steps → events_along p c w [] ≡ Some events → Shows {A = A} p limit spare (Long c w) events
  shows_long c w events within h e =
      let g = gone p ok c within w.start w.steps h.walk (before_once w.start w.steps h.once) (no_turn p c w.start w.steps h.walk.goes h.once) in
      let same = events_are p c w [] events g.line g.first e in
      let play = plays_whole p ok c within w.start w.steps g in
      let b = subst (PassesMany p limit) (sym play.leads) (passes_many p ok c within w.start w.steps g limit h) in
      subst (Shows {A = A} p limit spare (Long c w)) same
      (record { unrefused = play.unrefused; breaks = b; unsound = λ s. unsound_many p limit spare (walked_by p c w [] g.line) s b })

pub counters_show : (A : Type 0) (p : Plan) (limit spare : ℕ) (f : Finding A) (events : List Event) → IsPlan p → IsTrueOf p limit spare f → counter_of p f ≡ Some events → Shows p limit spare f events
counters_show A p limit spare (Ambiguous a b) events ok h e = let bad : ⊥ = cc in absurd bad
counters_show A p limit spare (Loop c w) events ok h e =
    elim (turns_on_one p w.steps) as (λ b. turns_on_one p w.steps ≡ b → (if b then None else events_along p c w []) ≡ Some events → Shows {A = A} p limit spare (Loop c w) events) [
      | true ↦ λ t q. let bad : ⊥ = cc in absurd bad
      | false ↦ λ t q. shows_loop p ok limit spare c w events h.0 h.1 t q
    ] refl e
counters_show A p limit spare (Short c w) events ok h e = shows_short p ok limit spare c w events h.0 h.1 e
counters_show A p limit spare (Long c w) events ok h e = shows_long p ok limit spare c w events h.0 h.1 e

-- every other finding has events
module _ (p : Plan) (ok : IsPlan p) where
  line_there : (c : ℕ) (w : Walk) (last : List Event) → IsWalk (net_of p c) w.start w.steps → is_some (events_along p c w last) ≡ true
  line_there c w last h =
      let k = caller p ok w.start (and_parts (is_origin p w.start) (not (is_barred p w.start c)) h.origin).0 in
      ap (λ o. is_some (option_map (walked_by p c w last) o)) k.first

  pub counter_there : {A : Type 0} (limit spare : ℕ) (f : Finding A) → IsTrueOf p limit spare f → is_some (counter_of p f) ≡ has_counter p f
  counter_there limit spare (Ambiguous a b) h = refl
  counter_there limit spare (Loop c w) h =
      elim (turns_on_one p w.steps) as (λ b. is_some (if b then None else events_along p c w []) ≡ not b) [ true ↦ refl | false ↦ line_there c w [] h.1.walk ]
  counter_there limit spare (Short c w) h = line_there c w (shut_events p c (end_of w.start w.steps)) h.1.walk
  counter_there limit spare (Long c w) h = line_there c w [] h.1.walk
