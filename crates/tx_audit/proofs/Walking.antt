-- The call goes along a walk.
use Rattle.std.proofs.Common.{◌≡◌, ◌≢◌, ℕ, ◌+◌, ◌-◌, ◌^◌, ◌≤◌, true, false, List, [], ◌∷◌, ◌++◌, ◌⊎◌, inl, inr, map, length, Option, Some, None, refl, sym, ap, ◌∙◌, subst, arith, length-append, append_assoc, append-nil}
use Rattle.tx_audit.proofs.Common.{same_Some, Plan, home_of, IsPlan, route_list, other_end, may_seize, is_both, direction_of, count_of, Circuit, Line, Among, AllDiffer, Goes, net_of, before_end, end_of, once_first, Route, Confirm, Block, Unblock, Hop, is_group, two_ends, listed_before, step_events, walk_events, is_single, turns_on_one}
use Rattle.std.proofs.lemmas.Bool.{false≢true, cases_eq, eq-eqb}
use Rattle.std.proofs.lemmas.List.{length-map, map_push}
use Rattle.tx_plan.proofs.Among.{among_cases}
use Rattle.tx_machine.specs.declared.open_call.Phase.TheVariants.{Standing, Calling}
use Rattle.tx_machine.specs.declared.reply.Reply.TheVariants.{Seized, At}
use Rattle.tx_machine.proofs.Playing.{Groups, AllUp, Plays, plays_none, plays_first, plays_one, plays_then, shut, opened, shut_out, shut_among, all_up_again}
use Rattle.tx_machine.proofs.OneCall.{alone, on_way, step_of, IsPlaced, routed_there, placed_next, route_step, confirm_step, blocks, unblocks}
use Rattle.tx_audit.proofs.Choices.{IsLoose, count_some, loose_new, loose_other, choose}
use Rattle.tx_audit.proofs.Listed.{listed_once, listed_known, listed_may, both_ways_from, known_from, not_before, before_once, before_all}

-- a hop of a call that stands at x and has passed these exchanges before
pub record IsPast (p : Plan) (x : ℕ) (past : List ℕ) (h : Hop) : Type 0 where
  pub from : ℕ
  pub passed : Among from past
  pub leads : other_end p h.circuit.group from ≡ Some h.far
  pub may : may_seize p h.circuit.group from ≡ true
  pub to : Among h.far past ⊎ (h.far ≡ x)

-- the hops of a call that stands at x, and the circuit by which it came
pub record IsOn (p : Plan) (x : ℕ) (past : List ℕ) (hops : List Hop) (last : Option Circuit) : Type 0 where
  pub each : (h : Hop) → Among h hops → IsPast p x past h
  pub back : (h : Hop) → Among h hops → h.far ≡ x → last ≡ Some h.circuit

-- no exchange is in both lists
abbrev pub Apart : List ℕ → List ℕ → Type 0
Apart past xs = (u : ℕ) → Among u past → Among u xs → ⊥

-- the steps to come do not end with a turn on the one circuit of a group
abbrev pub TurnsFree : Plan → Option Circuit → List (ℕ × ℕ) → Type 0
TurnsFree p None steps = turns_on_one p steps ≡ false
TurnsFree p (Some y) steps = turns_on_one p ((y.group, 0) ∷ steps) ≡ false

-- where the first step leads makes no difference
turns_again : (p : Plan) (g x y : ℕ) (steps : List (ℕ × ℕ)) → turns_on_one p ((g, x) ∷ steps) ≡ turns_on_one p ((g, y) ∷ steps)
turns_again p g x y [] = refl
turns_again p g x y (s ∷ []) = refl
turns_again p g x y (s ∷ t ∷ steps) = refl

-- it holds where there is a step to come
abbrev pub IfMore : List (ℕ × ℕ) → Type 0 → Type 0
IfMore [] P = Unit {0}
IfMore (s ∷ steps) P = P

-- a hop by the group of the next step is the last one, the step leads back, and the group is a both-way one
pub record IsTurn (p : Plan) (x y g : ℕ) (past : List ℕ) (h : Hop) : Type 0 where
  pub here : h.far ≡ x
  pub back : Among y past
  pub both : is_both (direction_of p g) ≡ true

module _ (p : Plan) (ok : IsPlan p) (code : ℕ) where
  turn : (x y g : ℕ) (past : List ℕ) (h : Hop) → IsPast p x past h → (Among x past → ⊥) → Among g (route_list p x code) → other_end p g x ≡ Some y → h.circuit.group ≡ g → IsTurn p x y g past h
  turn x y g past h i new listed leads e =
      let from_x : i.from ≡ x → ⊥ = λ q. new (subst (λ u. Among u past) q i.passed) in
      let l : other_end p g i.from ≡ Some h.far = subst (λ k. other_end p k i.from ≡ Some h.far) e i.leads in
      record {
        here = sym (two_ends p g i.from x h.far y l leads from_x);
        back = subst (λ u. Among u past) (two_ends p g x i.from y h.far leads l (λ q. from_x (sym q))) i.passed;
        both = both_ways_from p g i.from x (subst (λ k. may_seize p k i.from ≡ true) e i.may) (listed_may p ok x code g listed) from_x;
      }

  -- there is a circuit for the next step
  loose : (x y g : ℕ) (steps : List (ℕ × ℕ)) (past : List ℕ) (hops : List Hop) (last : Option Circuit)
      → IsOn p x past hops last → Apart past (before_end x ((g, y) ∷ steps)) → Among g (route_list p x code) → other_end p g x ≡ Some y → TurnsFree p last ((g, y) ∷ steps) → IsLoose p hops g
  loose x y g (s ∷ steps) past hops last on apart listed leads free =
      loose_new p hops g (count_some p ok g (known_from p g x y leads))
      (λ h m e. apart y (turn x y g past h (on.each h m) (λ a. apart x a (inl refl)) listed leads e).back (inr (inl refl)))
  loose x y g [] past hops None on apart listed leads free =
      loose_new p hops g (count_some p ok g (known_from p g x y leads))
      (λ h m e. let b = on.back h m (turn x y g past h (on.each h m) (λ a. apart x a (inl refl)) listed leads e).here in let bad : ⊥ = cc in bad)
  loose x y g [] past hops (Some z) on apart listed leads free =
      let some = count_some p ok g (known_from p g x y leads) in
      let t : (h : Hop) → Among h hops → h.circuit.group ≡ g → IsTurn p x y g past h = λ h m e. turn x y g past h (on.each h m) (λ a. apart x a (inl refl)) listed leads e in
      let came : (h : Hop) → Among h hops → h.circuit.group ≡ g → z ≡ h.circuit = λ h m e. same_Some _ _ (on.back h m (t h m e).here) in
      elim (cases_eq z.group g) [
        | inr ne ↦ loose_new p hops g some (λ h m e. ne (ap (λ (c : Circuit). c.group) (came h m e) ∙ e))
        | inl same ↦ elim (cases_eq (count_of p g) 1) [
          | inr many ↦ loose_other p hops g z (omega arith) came
          | inl one ↦ loose_new p hops g some (λ h m e. single z.group same free (t h m e).both one)
        ]
      ]
    where
      single : (k : ℕ) → k ≡ g → is_single p k g ≡ false → is_both (direction_of p g) ≡ true → count_of p g ≡ 1 → ⊥
      single k same free both one =
          let f : is_single p g g ≡ false = subst (λ k. is_single p k g ≡ false) same free in
          let e = eq-eqb g g refl in
          let o = eq-eqb (count_of p g) 1 one in
          let t : is_single p g g ≡ true = rw (e, both, o) refl in
          false≢true (sym f ∙ t)

  -- ONE STEP
  abbrev pub hop : Circuit → ℕ → Hop
  hop y z = record { circuit = y; far = z }

  pub step_count : (list : List ℕ) (g : ℕ) → length (step_events list g) ≡ (length (listed_before g list) + length (listed_before g list)) + 2
  step_count list g =
      let f = listed_before g list in
      let a = length-append (map Block f) (Route 1 ∷ (map Unblock f ++ (Confirm 1 ∷ []))) in
      let b = length-append (map Unblock f) (Confirm 1 ∷ []) in
      let c = length-map f Block in
      let d = length-map f Unblock in
      omega arith

  module _ (line : Line) (keyed : List ℕ) where
    pub record Stepped (hops : List Hop) (b : Groups) (n x g z : ℕ) : Type 0 where
      pub circuit : Circuit
      pub group : circuit.group ≡ g
      pub blocked : Groups
      pub up : AllUp blocked
      pub plays : Plays p (alone (on_way line keyed hops Standing) b n) (step_events (route_list p x code) g) (alone (on_way line keyed (hops ++ hop circuit z ∷ []) Standing) blocked (n + length (step_events (route_list p x code) g)))

    step_plays : (hops : List Hop) (b : Groups) (n x g z : ℕ) → IsPlaced p line keyed hops code x → x ≢ home_of p code → Among g (route_list p x code) → other_end p g x ≡ Some z → IsLoose p hops g → AllUp b
        → n + length (step_events (route_list p x code) g) ≤ 2 ^ 64 - 1 → Stepped hops b n x g z
    step_plays hops b n x g z placed away listed leads loose up few =
        let list = route_list p x code in
        let f = listed_before g list in
        let count = step_count list g in
        let routed = routed_there p line keyed hops code x placed away in
        let known = before_all (λ k. is_group p k ≡ true) g list (listed_known p ok x code) in
        let once = before_once g list (listed_once p ok x code) in
        let one = blocks p (on_way line keyed hops Standing) b n f known once (λ h m. up h) (omega arith) in
        let ch = choose p line keyed hops (shut b f) (n + length f) x code g listed (λ h m. shut_among b f h m) (shut_out b f g (up g) (not_before g list)) loose in
        let y = ch.0 in
        let two = route_step p line keyed hops (shut b f) (n + length f) code x routed (omega arith) y ch.1 in
        let three = unblocks p (on_way line keyed hops (Calling y)) (shut b f) ((n + length f) + 1) f known once (λ h m. shut_among b f h m) (omega arith) in
        let four = confirm_step p line keyed hops (opened (shut b f) f) (((n + length f) + 1) + length f) code x routed (omega arith) y z (ap (λ k. other_end p k x) ch.2 ∙ leads) in
        let end : ((((n + length f) + 1) + length f) + 1) ≡ n + length (step_events list g) = omega arith in
        let play = plays_then p _ _ _ (map Block f) (Route 1 ∷ (map Unblock f ++ (Confirm 1 ∷ []))) one
        (plays_first p _ _ _ (Route 1) (map Unblock f ++ (Confirm 1 ∷ [])) (Seized y) two refl
        (plays_then p _ _ _ (map Unblock f) (Confirm 1 ∷ []) three (plays_one p _ _ (Confirm 1) (At z) four refl))) in
        record {
          circuit = y;
          group = ch.2;
          blocked = opened (shut b f) f;
          up = all_up_again b f up;
          plays = subst (λ k. Plays p (alone (on_way line keyed hops Standing) b n) (step_events list g) (alone (on_way line keyed (hops ++ hop y z ∷ []) Standing) (opened (shut b f) f) k)) end play;
        }

    -- ALONG A WALK
    pub record Walked (hops : List Hop) (b : Groups) (n x : ℕ) (steps : List (ℕ × ℕ)) : Type 0 where
      pub gone : List Hop
      pub blocked : Groups
      pub up : AllUp blocked
      pub placed : IsPlaced p line keyed gone code (end_of x steps)
      pub way : map step_of gone ≡ map step_of hops ++ steps
      pub plays : Plays p (alone (on_way line keyed hops Standing) b n) (walk_events p code x steps) (alone (on_way line keyed gone Standing) blocked (n + length (walk_events p code x steps)))

    free_next : (last : Option Circuit) (g z : ℕ) (steps : List (ℕ × ℕ)) → TurnsFree p last ((g, z) ∷ steps) → turns_on_one p ((g, 0) ∷ steps) ≡ false
    free_next None g z steps free = turns_again p g 0 z steps ∙ free
    free_next (Some y) g z [] free = refl
    free_next (Some y) g z (t ∷ steps) free = turns_again p g 0 z (t ∷ steps) ∙ free

    on_next : (x z : ℕ) (past : List ℕ) (hops : List Hop) (last : Option Circuit) (y : Circuit) → IsOn p x past hops last → other_end p y.group x ≡ Some z → may_seize p y.group x ≡ true → (Among z past → ⊥) → x ≢ z → IsOn p z (x ∷ past) (hops ++ hop y z ∷ []) (Some y)
    on_next x z past hops last y on leads may new apart =
        record {
          each = λ h m. elim (among_cases h hops (hop y z ∷ []) m) [
            | inl a ↦ old h (on.each h a)
            | inr a ↦ elim a [ inl e ↦ subst (IsPast p z (x ∷ past)) e fresh | inr bad ↦ absurd bad ]
          ];
          back = λ h m here. elim (among_cases h hops (hop y z ∷ []) m) [
            | inl a ↦ absurd (elim (on.each h a).to [ inl far ↦ new (subst (λ u. Among u past) here far) | inr far ↦ apart (sym far ∙ here) ])
            | inr a ↦ elim a [ inl e ↦ ap (λ (k : Hop). Some k.circuit) e | inr bad ↦ absurd bad ]
          ];
        }
      where
        fresh : IsPast p z (x ∷ past) (hop y z)
        fresh = record { from = x; passed = inl refl; leads = leads; may = may; to = inr refl }

        old : (h : Hop) → IsPast p x past h → IsPast p z (x ∷ past) h
        old h i = record { from = i.from; passed = inr i.passed; leads = i.leads; may = i.may; to = inl (elim i.to [ inl a ↦ inr a | inr e ↦ inl (sym e) ]) }

    more_next : (x z : ℕ) (steps : List (ℕ × ℕ)) (past : List ℕ) (hops : List Hop) (last : Option Circuit) (y : Circuit) → IsOn p x past hops last → other_end p y.group x ≡ Some z → may_seize p y.group x ≡ true
        → Apart past (x ∷ before_end z steps) → AllDiffer (x ∷ before_end z steps) → IfMore steps (IsOn p z (x ∷ past) (hops ++ hop y z ∷ []) (Some y))
    more_next x z [] past hops last y on leads may apart once = tt
    more_next x z (t ∷ steps) past hops last y on leads may apart once = on_next x z past hops last y on leads may (λ a. apart z a (inr (inl refl))) (λ e. once_first x (before_end z (t ∷ steps)) once (inl (sym e)))

    -- the step and the steps after it
    walk_next : (hops : List Hop) (b : Groups) (n x g z : ℕ) (steps : List (ℕ × ℕ)) (one : Stepped hops b n x g z) → Walked (hops ++ hop one.circuit z ∷ []) one.blocked (n + length (step_events (route_list p x code) g)) z steps → Walked hops b n x ((g, z) ∷ steps)
    walk_next hops b n x g z steps one more =
        let es = step_events (route_list p x code) g in
        let rest = walk_events p code z steps in
        let count = length-append es rest in
        let end : (n + length es) + length rest ≡ n + length (es ++ rest) = omega arith in
        record {
          gone = more.gone;
          blocked = more.blocked;
          up = more.up;
          placed = more.placed;
          way = more.way ∙ ap (λ l. l ++ steps) (map_push step_of hops (hop one.circuit z)) ∙ append_assoc (map step_of hops) ((one.circuit.group, z) ∷ []) steps ∙ ap (λ k. map step_of hops ++ (k, z) ∷ steps) one.group;
          plays = subst (λ k. Plays p (alone (on_way line keyed hops Standing) b n) (es ++ rest) (alone (on_way line keyed more.gone Standing) more.blocked k)) end
              (plays_then p (alone (on_way line keyed hops Standing) b n) (alone (on_way line keyed (hops ++ hop one.circuit z ∷ []) Standing) one.blocked (n + length es)) (alone (on_way line keyed more.gone Standing) more.blocked ((n + length es) + length rest)) es rest one.plays more.plays);
        }

    -- THE WALK IS GONE
    abbrev CanGo : List (ℕ × ℕ) → Type 0
    CanGo steps = (x : ℕ) (past : List ℕ) (hops : List Hop) (last : Option Circuit) (b : Groups) (n : ℕ) → IsPlaced p line keyed hops code x → Goes (net_of p code) x steps → AllDiffer (before_end x steps)
        → Apart past (before_end x steps) → IfMore steps (IsOn p x past hops last) → TurnsFree p last steps → AllUp b → n + length (walk_events p code x steps) ≤ 2 ^ 64 - 1 → Walked hops b n x steps

    after_step : (g z : ℕ) (steps : List (ℕ × ℕ)) → CanGo steps → (x : ℕ) (past : List ℕ) (hops : List Hop) (last : Option Circuit) (b : Groups) (n : ℕ) → IsPlaced p line keyed hops code x → Goes (net_of p code) x ((g, z) ∷ steps)
        → AllDiffer (x ∷ before_end z steps) → Apart past (x ∷ before_end z steps) → IsOn p x past hops last → TurnsFree p last ((g, z) ∷ steps) → n + length (walk_events p code x ((g, z) ∷ steps)) ≤ 2 ^ 64 - 1
        → Stepped hops b n x g z → Walked hops b n x ((g, z) ∷ steps)
    after_step g z steps go x past hops last b n placed goes once apart on free few one =
        let y = one.circuit in
        let es = step_events (route_list p x code) g in
        let count = length-append es (walk_events p code z steps) in
        let leads : other_end p y.group x ≡ Some z = ap (λ k. other_end p k x) one.group ∙ goes.2 in
        let may : may_seize p y.group x ≡ true = ap (λ k. may_seize p k x) one.group ∙ listed_may p ok x code g goes.1 in
        let turns : turns_on_one p ((y.group, 0) ∷ steps) ≡ false = ap (λ k. turns_on_one p ((k, 0) ∷ steps)) one.group ∙ free_next last g z steps free in
        walk_next hops b n x g z steps one
        (go z (x ∷ past) (hops ++ hop y z ∷ []) (Some y) one.blocked (n + length es) (placed_next p line keyed hops code x (hop y z) placed) goes.3 once.1
        (λ u a m. elim a [ inl e ↦ once_first x (before_end z steps) once (subst (λ v. Among v (before_end z steps)) (sym e) m) | inr k ↦ apart u k (inr m) ])
        (more_next x z steps past hops last y on leads may apart once) turns one.up (omega arith))

    pub walk_plays : (steps : List (ℕ × ℕ)) → CanGo steps
    walk_plays [] x past hops last b n placed goes once apart on free up few =
        record {
          gone = hops;
          blocked = b;
          up = up;
          placed = placed;
          way = sym (append-nil (map step_of hops));
          plays = subst (λ k. Plays p (alone (on_way line keyed hops Standing) b n) [] (alone (on_way line keyed hops Standing) b k)) (let e : n ≡ n + 0 = omega arith in e) (plays_none p (alone (on_way line keyed hops Standing) b n));
        }
    walk_plays ((g, z) ∷ steps) x past hops last b n placed goes once apart on free up few =
        let count = length-append (step_events (route_list p x code) g) (walk_events p code z steps) in
        after_step g z steps (walk_plays steps) x past hops last b n placed goes once apart on free few
        (step_plays hops b n x g z placed goes.0 goes.1 goes.2 (loose x z g steps past hops last on apart goes.1 goes.2 free) up (omega arith))
