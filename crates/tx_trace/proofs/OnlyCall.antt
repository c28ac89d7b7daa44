-- The only call of a network goes by the first way.
use Rattle.std.proofs.Common.{◌≡◌, ◌≢◌, ℕ, zero, suc, ◌+◌, ◌-◌, ◌^◌, ◌<◌, ◌≤◌, ◌==◌, true, false, ◌&&◌, nat_le, eqb-true, eq-eqb, List, [], ◌∷◌, ◌++◌, ◌⊎◌, inl, inr, map, length, Option, Some, None, refl, sym, ap, ◌∙◌, subst, arith, append-nil}
use Rattle.tx_trace.proofs.Common.{if◌then◌else◌, find, is_some, option_and_then, option_map, option_to_list, length_push, map-append, length-le_from_distinct_below, Plan, home_of, code_of, route_list, is_barred, other_end, Circuit, Line, Among, AllDiffer, Goes, net_of, end_of, before_end, passed, is_net, once_push, end_push, goes_push, all_distinct, any_among, passed_below, passed_count, Event, Hop, Standing, Reply, Service, first_free, choice, line_answer, at_line, line_of, step, chosen}
use Rattle.std.specs.FinSet as set
use Rattle.std.proofs.lemmas.Bool.{false≢true, and_parts, eqb-false, lt-leb}
use Rattle.std.proofs.lemmas.Grind.{flat_map-append}
use Rattle.tx_text.specs.Words.{are_figures}
use Rattle.tx_plan.specs.Rules.{IsPlan, IsRange}
use Rattle.tx_plan.specs.Lines.{is_line, in_range}
use Rattle.tx_plan.specs.declared.range.LineRange.{LineRange}
use Rattle.tx_machine.specs.declared.event.Event.TheVariants.{Key, Route, Confirm}
use Rattle.tx_machine.specs.declared.reply.Reply.TheVariants.{Keyed, Seized, At, Answered}
use Rattle.tx_machine.specs.declared.cause.Service.TheVariants.{Nc}
use Rattle.tx_machine.specs.State.{State, opening}
use Rattle.tx_machine.specs.Runs.{replies, state_after}
use Rattle.tx_machine.proofs.Lists.{any_mem, none_any, find_mem}
use Rattle.tx_machine.proofs.Ranks.{code_within}
use Rattle.tx_machine.proofs.Steps.{all_mem, listed_leads}
use Rattle.tx_machine.proofs.OneCall.{alone, on_way, step_of, IsPlaced, routed_there, placed_next, key_step, route_step, nc_step, confirm_step}
use Rattle.tx_trace.specs.Ways.{has_free, step_by, first_step, comes_back, next_step, way_within, first_way}
use Rattle.tx_trace.specs.OnlyCall.{events_along, state_along, replies_along, line_reply, last_reply, GoesBy}
use Rattle.tx_rank.proofs.Trails.{passed_end, before_longer}
use Rattle.tx_trace.proofs.FreeCircuits.{AreApart, none_apart, one_apart, free_there, chosen_there}

-- EVENTS IN TURN

module _ (p : Plan) where
  replies_then : (s : State) (es fs : List Event) → replies p s (es ++ fs) ≡ replies p s es ++ replies p (state_after p s es) fs
  replies_then s [] fs = refl
  replies_then s (e ∷ es) fs = ap (λ rs. (step p s e).0 ∷ rs) (replies_then (step p s e).1 es fs)

  state_then : (s : State) (es fs : List Event) → state_after p s (es ++ fs) ≡ state_after p (state_after p s es) fs
  state_then s [] fs = refl
  state_then s (e ∷ es) fs = state_then (step p s e).1 es fs

abbrev one_hop : List Event
one_hop = Route 1 ∷ (Confirm 1 ∷ [])

events_push : (line : Line) (keyed : List ℕ) (way : List (ℕ × ℕ)) (s : ℕ × ℕ) → events_along line keyed (way ++ s ∷ []) ≡ events_along line keyed way ++ one_hop
events_push line keyed way s = ap (λ es. Key line keyed ∷ es) (flat_map-append (λ (s : ℕ × ℕ). one_hop) way (s ∷ []))

replies_push : (hops : List Hop) (h : Hop) → replies_along (hops ++ h ∷ []) ≡ replies_along hops ++ (Seized h.circuit ∷ (At h.far ∷ []))
replies_push hops h = ap (λ rs. Keyed 1 ∷ rs) (flat_map-append (λ (k : Hop). Seized k.circuit ∷ (At k.far ∷ [])) hops (h ∷ []))

module _ (p : Plan) (ok : IsPlan p) (c x : ℕ) (line : Line) (keyed : List ℕ) (known : is_line p line ≡ true) (home : home_of p line.code ≡ x) (code : code_of p keyed ≡ Some c) (admitted : is_barred p x c ≡ false) where
  abbrev going : List Hop → ℕ → State
  going hops n = alone (on_way line keyed hops Standing) set.empty n

  abbrev count : List (ℕ × ℕ) → ℕ
  count way = 1 + (length way + length way)

  -- the call has gone this way
  record HasGone (way : List (ℕ × ℕ)) : Type 0 where
    hops : List Hop
    steps : map step_of hops ≡ way
    apart : AreApart p hops
    placed : IsPlaced p line keyed hops c (end_of x way)
    replied : replies p (opening 0 0) (events_along line keyed way) ≡ replies_along hops
    here : state_along p line keyed way ≡ going hops (count way)

  starts : HasGone []
  starts = record {
    hops = [];
    steps = refl;
    apart = none_apart p;
    placed = record { code' = code; at = home; admitted = admitted };
    replied = ap (λ (q : Reply × State). q.0 ∷ []) (key_step p line keyed known);
    here = ap (λ (q : Reply × State). q.1) (key_step p line keyed known);
  }

  -- THE NEXT STEP

  record IsNext (way : List (ℕ × ℕ)) (g z : ℕ) : Type 0 where
    new : Among (end_of x way) (before_end x way) → ⊥
    away : end_of x way ≢ home_of p c
    first : find (has_free p way) (route_list p (end_of x way) c) ≡ Some g
    leads : other_end p g (end_of x way) ≡ Some z

  not_back : (way : List (ℕ × ℕ)) → comes_back x way ≡ false → Among (end_of x way) (before_end x way) → ⊥
  not_back way e m = false≢true (sym (none_any (λ z. z == end_of x way) (before_end x way) (end_of x way) e m) ∙ eq-eqb (end_of x way) (end_of x way) refl)

  next_is : (way : List (ℕ × ℕ)) (g z : ℕ) → next_step p c x way ≡ Some (g, z) → IsNext way g z
  next_is way g z e =
      elim (comes_back x way) as (λ b. comes_back x way ≡ b → (if b then None else first_step p c (end_of x way) way) ≡ Some (g, z) → IsNext way g z) [
        | true ↦ λ k q. let bad : ⊥ = cc in absurd bad
        | false ↦ λ k q. from_list k q
      ] refl e
    where
      led : comes_back x way ≡ false → end_of x way ≢ home_of p c → (h : ℕ) → find (has_free p way) (route_list p (end_of x way) c) ≡ Some h → (o : Option ℕ) → other_end p h (end_of x way) ≡ o → option_map {U = ℕ × ℕ} (λ z. (h, z)) o ≡ Some (g, z) → IsNext way g z
      led k away h f None l q = let bad : ⊥ = cc in absurd bad
      led k away h f (Some u) l q =
          let pair : (h, u) ≡ (g, z) = cc in
          let same = ap (λ (s : ℕ × ℕ). s.0) pair in
          let far = ap (λ (s : ℕ × ℕ). s.1) pair in
          record { new = not_back way k; away = away; first = f ∙ ap Some same; leads = ap (λ i. other_end p i (end_of x way)) (sym same) ∙ l ∙ ap Some far }

      found : comes_back x way ≡ false → end_of x way ≢ home_of p c → (o : Option ℕ) → find (has_free p way) (route_list p (end_of x way) c) ≡ o → option_and_then (step_by p (end_of x way)) o ≡ Some (g, z) → IsNext way g z
      found k away None f q = let bad : ⊥ = cc in absurd bad
      found k away (Some h) f q = led k away h f (other_end p h (end_of x way)) refl q

      from_list : comes_back x way ≡ false → first_step p c (end_of x way) way ≡ Some (g, z) → IsNext way g z
      from_list k q =
          elim (end_of x way == home_of p c) as (λ b. (end_of x way == home_of p c) ≡ b → (if b then None else option_and_then (step_by p (end_of x way)) (find (has_free p way) (route_list p (end_of x way) c))) ≡ Some (g, z) → IsNext way g z) [
            | true ↦ λ h q. let bad : ⊥ = cc in absurd bad
            | false ↦ λ h q. found k (eqb-false (end_of x way) (home_of p c) h) (find (has_free p way) (route_list p (end_of x way) c)) refl q
          ] refl q

  module _ (way : List (ℕ × ℕ)) (gone : HasGone way) (few : length way ≤ 256) where
    abbrev y : ℕ
    y = end_of x way

    abbrev now : State
    now = going gone.hops (count way)

    choice_is : choice p now y c ≡ option_and_then (first_free p now y) (find (has_free p way) (route_list p y c))
    choice_is = chosen_there p line keyed gone.hops gone.apart (count way) y c ∙ ap (λ w. option_and_then (first_free p now y) (find (has_free p w) (route_list p y c))) gone.steps

    module _ (g z : ℕ) (next : IsNext way g z) where
      go_by : (k : Circuit) → first_free p now y g ≡ Some k → HasGone (way ++ (g, z) ∷ [])
      go_by k e =
          let hops = gone.hops in
          let i = chosen p now y g k e in
          let h : Hop = record { circuit = k; far = z } in
          let n = count way in
          let routed = routed_there p line keyed hops c y gone.placed next.away in
          let one = route_step p line keyed hops set.empty n c y routed (omega arith) k (choice_is ∙ ap (option_and_then (first_free p now y)) next.first ∙ e) in
          let two = confirm_step p line keyed hops set.empty (n + 1) c y routed (omega arith) k z (ap (λ j. other_end p j y) i.group ∙ next.leads) in
          let told : replies p now one_hop ≡ Seized k ∷ (At z ∷ []) = ap (λ (q : Reply × State). q.0 ∷ ((step p q.1 (Confirm 1)).0 ∷ [])) one ∙ ap (λ (q : Reply × State). Seized k ∷ (q.0 ∷ [])) two in
          let left : state_after p now one_hop ≡ going (hops ++ h ∷ []) ((n + 1) + 1) = ap (λ (q : Reply × State). (step p q.1 (Confirm 1)).1) one ∙ ap (λ (q : Reply × State). q.1) two in
          let long = length_push way (g, z) in
          record {
            hops = hops ++ h ∷ [];
            steps = map-append step_of hops (h ∷ []) ∙ ap (λ w. w ++ step_of h ∷ []) gone.steps ∙ ap (λ j. way ++ (j, z) ∷ []) i.group;
            apart = one_apart p hops h gone.apart i.planned (λ m. i.free.carried (on_way line keyed hops Standing) (inl refl) m);
            placed = subst (IsPlaced p line keyed (hops ++ h ∷ []) c) (sym (end_push x way (g, z))) (placed_next p line keyed hops c y h gone.placed);
            replied = ap (replies p (opening 0 0)) (events_push line keyed way (g, z)) ∙ replies_then p (opening 0 0) (events_along line keyed way) one_hop ∙ ap (λ rs. rs ++ replies p (state_along p line keyed way) one_hop) gone.replied
                ∙ ap (λ s. replies_along hops ++ replies p s one_hop) gone.here ∙ ap (λ rs. replies_along hops ++ rs) told ∙ sym (replies_push hops h);
            here = ap (state_after p (opening 0 0)) (events_push line keyed way (g, z)) ∙ state_then p (opening 0 0) (events_along line keyed way) one_hop ∙ ap (λ s. state_after p s one_hop) gone.here ∙ left
                ∙ ap (going (hops ++ h ∷ [])) (let q : (n + 1) + 1 ≡ count (way ++ (g, z) ∷ []) = omega arith in q);
          }

      go_on : HasGone (way ++ (g, z) ∷ [])
      go_on = at (first_free p now y g) refl (free_there p line keyed gone.hops gone.apart (count way) y g ∙ ap (λ w. has_free p w g) gone.steps ∙ (find_mem (has_free p way) (route_list p y c) g next.first).1)
        where
          at : (o : Option Circuit) → first_free p now y g ≡ o → is_some o ≡ true → HasGone (way ++ (g, z) ∷ [])
          at None e h = absurd (false≢true h)
          at (Some k) e h = go_by k e

    -- THE LAST REPLY

    home_reply : y ≡ home_of p c → (step p now (Route 1)).0 ≡ line_reply (line_of p c keyed) (line_answer p now (line_of p c keyed))
    home_reply e =
        let r : nat_le (2 ^ 64 - 1) (count way) ≡ false = lt-leb (2 ^ 64 - 1) (count way) (omega arith) in
        let k = gone.placed.code' in
        let a = gone.placed.at in
        let u = gone.placed.admitted in
        let w : (home_of p c == y) ≡ true = eq-eqb (home_of p c) y (sym e) in
        rw (r, k, a, u, w) (at (line_answer p now (line_of p c keyed)))
      where
        at : (o : Option Service) → (at_line p now (on_way line keyed gone.hops Standing) (line_of p c keyed) o).0 ≡ line_reply (line_of p c keyed) o
        at None = refl
        at (Some s) = refl

    none_chosen : y ≢ home_of p c → (o : Option ℕ) → find (has_free p way) (route_list p y c) ≡ o → option_and_then (step_by p y) o ≡ None → option_and_then (first_free p now y) o ≡ None
    none_chosen away None e n = refl
    none_chosen away (Some g) e n =
        let l = listed_leads p ok y c g (find_mem (has_free p way) (route_list p y c) g e).0 in
        absurd (led (other_end p g y) l.0 l.1 n)
      where
        led : (o : Option ℕ) (u : ℕ) → o ≡ Some u → option_map {U = ℕ × ℕ} (λ z. (g, z)) o ≡ None → ⊥
        led None u q n = let bad : ⊥ = cc in bad
        led (Some v) u q n = let bad : ⊥ = cc in bad

    last_is : next_step p c x way ≡ None → comes_back x way ≡ false → (step p now (Route 1)).0 ≡ last_reply p now c y keyed
    last_is none new =
        elim (y == home_of p c) as (λ b. (y == home_of p c) ≡ b → (if b then None else option_and_then (step_by p y) (find (has_free p way) (route_list p y c))) ≡ None
        → (step p now (Route 1)).0 ≡ (if b then line_reply (line_of p c keyed) (line_answer p now (line_of p c keyed)) else Answered Nc)) [
          | true ↦ λ e n. home_reply (eqb-true y (home_of p c) e)
          | false ↦ λ e n.
              let away = eqb-false y (home_of p c) e in
              nc_step p line keyed gone.hops set.empty (count way) c y (routed_there p line keyed gone.hops c y gone.placed away) (omega arith)
              (choice_is ∙ none_chosen away (find (has_free p way) (route_list p y c)) refl n)
        ] refl (rw new at none)

  -- STEP BY STEP

  record Went (k : ℕ) (way : List (ℕ × ℕ)) : Type 0 where
    gone : HasGone way
    goes : Goes (net_of p c) x way
    once : AllDiffer (before_end x way)
    few : length way ≤ k
    so_far : (length way ≡ k) ⊎ (next_step p c x way ≡ None)

  went_on : (k : ℕ) (way : List (ℕ × ℕ)) → k < 256 → Went k way → (o : Option (ℕ × ℕ)) → next_step p c x way ≡ o → Went (suc k) (way ++ option_to_list o)
  went_on k way h w None e = let few = w.few in subst (Went (suc k)) (sym (append-nil way)) (record { gone = w.gone; goes = w.goes; once = w.once; few = omega arith; so_far = inr e })
  went_on k way h w (Some (g, z)) e =
      let few = w.few in
      let i = next_is way g z e in
      let long = length_push way (g, z) in
      record {
        gone = go_on way w.gone (omega arith) g z i;
        goes = goes_push (net_of p c) x way (g, z) w.goes i.away (find_mem (has_free p way) (route_list p (end_of x way) c) g i.first).0 i.leads;
        once = subst AllDiffer (sym (before_longer x way (g, z))) (once_push (before_end x way) (end_of x way) w.once i.new);
        few = omega arith;
        so_far = elim w.so_far [ inl l ↦ inl (omega arith) | inr n ↦ let bad : ⊥ = cc in absurd bad ];
      }

  went : (k : ℕ) → k ≤ 256 → Went k (way_within p c x k)
  went zero h = record { gone = starts; goes = tt; once = tt; few = omega arith; so_far = inl refl }
  went (suc k) h = went_on k (way_within p c x k) (omega arith) (went k (omega arith)) (next_step p c x (way_within p c x k)) refl

  -- a line's exchange is one of the plan
  within : x < length p.exchanges
  within =
      let r = any_mem (λ (r : LineRange). (r.code == line.code) && in_range line.national r) p.ranges (and_parts (are_figures 1 9 line.national) _ known).1 in
      let there = (all_mem (IsRange p) p.ranges r.0 ok.ranges r.1).code in
      let same = eqb-true r.0.code line.code (and_parts (r.0.code == line.code) _ r.2).0 in
      subst (λ y. y < length p.exchanges) home (is_net p ok line.code (subst (λ d. d < length p.codes) same there)).home

  -- a way that is as long as there are exchanges has come back
  stopped : (way : List (ℕ × ℕ)) → Went (length p.exchanges) way → comes_back x way ≡ false → next_step p c x way ≡ None
  stopped way w new = elim w.so_far [
    | inr none ↦ none
    | inl long ↦
        let once = subst AllDiffer (sym (passed_end x way)) (once_push (before_end x way) (end_of x way) w.once (not_back way new)) in
        let net = is_net p ok c (code_within p keyed c code) in
        let few = length-le_from_distinct_below (passed x way) (length p.exchanges) (all_distinct (passed x way) once) (λ q h. passed_below (net_of p c) net x way w.goes within q (any_among q (passed x way) h)) in
        let more = passed_count x way in
        absurd (omega arith)
  ]

  pub goes_by : GoesBy p c x line keyed (first_way p c x)
  goes_by =
      let few = ok.few_exchanges in
      let w = went (length p.exchanges) (omega arith) in
      let way = first_way p c x in
      let gone = w.gone in
      record {
        hops = gone.hops;
        steps = gone.steps;
        replied = gone.replied;
        once = w.once;
        ended = λ new. subst (λ s. (step p s (Route 1)).0 ≡ last_reply p s c (end_of x way) keyed) (sym gone.here)
            (last_is way gone (let l = w.few in omega arith) (stopped way w new) new);
      }
