-- Runs in which each call has ranks of its own, whichever plan of the network is in force.
use Rattle.tx_machine.proofs.Common.{◌≡◌, ℕ, ◌+◌, ◌*◌, ◌≤◌, Bool, true, false, List, [], ◌∷◌, map, refl, arith, if◌then◌else◌, AllByRecursion, Plan, IsPlan, Ranks, IsCertified, SameNetwork, Among, Event, Call, Standing, State, opening, step, IsSafeCall, FewDown, OthersFree, IsNcByCollision, routes_of, Holds}
use Rattle.tx_plan.proofs.Networks.{same_back, same_along}
use Rattle.tx_machine.specs.Runs.{moment}
use Rattle.tx_machine.specs.ChangingRuns.{Turn, Switched, changing_run, IsSafeByEach, IsExcusedThen}
use Rattle.tx_machine.proofs.Invariant.{inv_opening}
use Rattle.tx_machine.proofs.Steps.{step_keeps}
use Rattle.tx_machine.proofs.Ranks.{AllRanked, AreLed, step_ranked}
use Rattle.tx_machine.proofs.Safe.{safe_call, safe_state}
use Rattle.tx_machine.proofs.Excuses.{step_excused}
use Rattle.tx_machine.proofs.Spares.{by_collision}
use Rattle.tx_machine.proofs.Counts.{IsCounted, is_counted, counted_step}
use Rattle.tx_machine.proofs.ByNetwork.{holds_by, ranked_by, safe_by}

module _ (net : Plan) (ranks_of : ℕ → Ranks) (limit spare : ℕ) where
  -- a plan of the network that ranks certify
  pub record IsServed (ranks : Ranks) : Type 0 where
    pub plan : Plan
    pub rules : IsPlan plan
    pub network : SameNetwork net plan
    pub certified : IsCertified plan ranks limit spare

  -- A plan of the network is in force, which the ranks of each call that stands certify. Those of
  -- any call certify some plan of it.
  pub record IsLive (m : Switched) : Type 0 where
    pub rules : IsPlan m.plan
    pub network : SameNetwork net m.plan
    pub certified : (c : Call) → Among c m.moment.before.calls → c.phase ≡ Standing → IsCertified m.plan (ranks_of c.number) limit spare
    pub served : (n : ℕ) → IsServed (ranks_of n)

  -- what is kept, whichever plan is in force
  abbrev pub Kept : State → Type 0
  Kept s = Holds net s × AllRanked net ranks_of s.calls

  kept_first : (numbers count : ℕ) → Kept (opening numbers count)
  kept_first numbers count = (inv_opening net numbers, λ c m. elim m [ ])

  kept_safe : (s : State) → ((n : ℕ) → IsServed (ranks_of n)) → Kept s → IsSafeByEach net limit s
  kept_safe s served k q to = safe_state q limit s (holds_by net q to s k.0) (λ c m. call c m (served c.number))
    where
      call : (c : Call) → Among c s.calls → IsServed (ranks_of c.number) → IsSafeCall q limit c
      call c m v =
          let kept = (holds_by net v.plan v.network s k.0).each c m in
          let ranked = ranked_by net v.plan v.network (ranks_of c.number) c (k.1 c m) in
          safe_by v.plan q (same_along v.plan net q (same_back net v.plan v.network) to) limit c
          (safe_call v.plan v.rules (ranks_of c.number) limit spare v.certified c kept ranked)

  module _ (m : Plan) (s : State) (e : Event) (live : IsLive (record { plan = m; moment = moment m s e })) (k : Kept s) where
    here : Holds m s
    here = holds_by net m live.network s k.0

    led : AreLed m ranks_of limit spare s.calls
    led = record { ranked = λ c a. ranked_by net m live.network (ranks_of c.number) c (k.1 c a); certified = live.certified }

    turn_keeps : Kept (step m s e).1
    turn_keeps =
        let back = same_back net m live.network in (
          holds_by m net back (step m s e).1 (step_keeps m live.rules s here e),
          λ c a. ranked_by m net back (ranks_of c.number) c (step_ranked m ranks_of limit spare s here led e c a),
        )

  -- what holds at an event
  pub record IsSoundTurn (m : Switched) : Type 0 where
    pub safe : IsSafeByEach net limit m.moment.after
    pub excused : IsExcusedThen spare m
    pub suffices : FewDown m.plan m.moment.before spare → OthersFree m.plan m.moment.before m.moment.event → IsNcByCollision m.moment.before m.moment.reply

  along : (s : State) → Kept s → (turns : List Turn) → AllByRecursion IsLive (changing_run s turns) → AllByRecursion IsSoundTurn (changing_run s turns)
  along s k [] u = tt
  along s k (t ∷ turns) u =
      let k' = turn_keeps t.plan s t.event u.0 k in
      let excused = step_excused t.plan ranks_of limit spare s (here t.plan s t.event u.0 k) (led t.plan s t.event u.0 k) t.event in (
        record {
          safe = kept_safe (step t.plan s t.event).1 u.0.served k';
          excused = excused;
          suffices = λ few free. by_collision t.plan u.0.rules spare s t.event few free (step t.plan s t.event).0 excused;
        },
        along (step t.plan s t.event).1 k' turns u.1,
      )

  pub sound_along : (numbers count : ℕ) (turns : List Turn) → AllByRecursion IsLive (changing_run (opening numbers count) turns) → AllByRecursion IsSoundTurn (changing_run (opening numbers count) turns)
  sound_along numbers count = along (opening numbers count) (kept_first numbers count)

  -- FEW ROUTES
  few_from : (n : ℕ) (s : State) → Kept s → (turns : List Turn) → AllByRecursion IsLive (changing_run s turns) → (k : ℕ) → IsCounted limit s.calls s.numbers n k → routes_of n (map (λ m. m.moment) (changing_run s turns)) + k ≤ 2 * limit + 3
  few_from n s kept [] u k i = let f = i.few in omega arith
  few_from n s kept (t ∷ turns) u k i =
      let step_on = counted_step t.plan ranks_of limit spare n s (here t.plan s t.event u.0 kept) (led t.plan s t.event u.0 kept) t.event k i in
      let rest = few_from n (step t.plan s t.event).1 (turn_keeps t.plan s t.event u.0 kept) turns u.1 _ step_on in
      at (is_counted n t.event (step t.plan s t.event).0) (routes_of n (map (λ m. m.moment) (changing_run (step t.plan s t.event).1 turns))) rest
    where
      at : (b : Bool) (r : ℕ) → r + (k + (if b then 1 else 0)) ≤ 2 * limit + 3 → (if b then 1 else 0) + r + k ≤ 2 * limit + 3
      at true r j = omega arith
      at false r j = omega arith

  pub few_along : (numbers count : ℕ) (turns : List Turn) (n : ℕ) → AllByRecursion IsLive (changing_run (opening numbers count) turns) → routes_of n (map (λ m. m.moment) (changing_run (opening numbers count) turns)) ≤ 2 * limit + 3
  few_along numbers count turns n u =
      let b = few_from n (opening numbers count) (kept_first numbers count) turns u 0 (record { few = omega arith; open' = λ c m. elim m [ ]; later = λ l. refl }) in
      omega arith
