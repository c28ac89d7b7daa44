-- The promises of every run.
use Rattle.tx_machine.proofs.Common.{ℕ, List, [], ◌∷◌, AllByRecursion, Plan, IsPlan, Ranks, IsCertified, all_map, Event, Call, State, opening, step, IsExcused, FewDown, OthersFree, IsNcByCollision, Holds}
use Rattle.tx_machine.specs.Runs.{run, InEveryState, OfEveryEvent}
use Rattle.tx_machine.specs.Safe.{JoinsAndCarriesOnce, TakesPartOnce, FallsInRank, RanksFall, IsSafe}
use Rattle.tx_machine.specs.Sound.{IsSound}
use Rattle.tx_machine.proofs.Lists.{all_from_mem}
use Rattle.tx_machine.proofs.Invariant.{inv_opening}
use Rattle.tx_machine.proofs.Steps.{step_keeps}
use Rattle.tx_machine.proofs.Ranks.{AllRanked, AreLed, all_led, step_ranked}
use Rattle.tx_machine.proofs.Safe.{carried_once, part_once, call_falls, safe_call, safe_state}
use Rattle.tx_machine.proofs.Excuses.{step_excused}
use Rattle.tx_machine.proofs.Spares.{by_collision}

-- IN EVERY RUN OF EVERY PLAN
module _ (p : Plan) (ok : IsPlan p) where
  -- what the invariant gives
  module _ (Q : State → Type 0) (gives : (s : State) → Holds p s → Q s) where
    along : (s : State) → Holds p s → (events : List Event) → AllByRecursion (λ m. Q m.after) (run p s events)
    along s h [] = tt
    along s h (e ∷ events) = let h' = step_keeps p ok s h e in (gives (step p s e).1 h', along (step p s e).1 h' events)

    kept_in : InEveryState p Q
    kept_in numbers count events = let h = inv_opening p numbers in (gives (opening numbers count) h, along (opening numbers count) h events)

  pub carried_once_in : InEveryState p (JoinsAndCarriesOnce p)
  carried_once_in = kept_in (JoinsAndCarriesOnce p) (carried_once p)

  pub part_once_in : InEveryState p (TakesPartOnce p)
  part_once_in = kept_in (TakesPartOnce p) (part_once p)

  -- IN EVERY RUN OF A CERTIFIED PLAN
  module _ (ranks : Ranks) (limit spare : ℕ) (cert : IsCertified p ranks limit spare) where
    none_ranked : AllRanked p (λ n. ranks) []
    none_ranked c m = elim m [ ]

    led : (cs : List Call) → AllRanked p (λ n. ranks) cs → AreLed p (λ n. ranks) limit spare cs
    led = all_led p ranks limit spare cert

    -- what the invariant and the ranks give
    module _ (Q : State → Type 0) (gives : (s : State) → Holds p s → AllRanked p (λ n. ranks) s.calls → Q s) where
      fall_along : (s : State) → Holds p s → AllRanked p (λ n. ranks) s.calls → (events : List Event) → AllByRecursion (λ m. Q m.after) (run p s events)
      fall_along s h r [] = tt
      fall_along s h r (e ∷ events) =
          let h' = step_keeps p ok s h e in
          let r' = step_ranked p (λ n. ranks) limit spare s h (led s.calls r) e in
          (gives (step p s e).1 h' r', fall_along (step p s e).1 h' r' events)

      ranked_in : InEveryState p Q
      ranked_in numbers count events = let h = inv_opening p numbers in (gives (opening numbers count) h none_ranked, fall_along (opening numbers count) h none_ranked events)

    pub ranks_fall_in : InEveryState p (RanksFall p ranks limit)
    ranks_fall_in = ranked_in (RanksFall p ranks limit) (λ s h r. all_from_mem (FallsInRank p ranks limit) s.calls (λ c m. call_falls p ok ranks limit spare cert c (h.each c m) (r c m)))

    excused_along : (s : State) → Holds p s → AllRanked p (λ n. ranks) s.calls → (events : List Event) → AllByRecursion (λ m. IsExcused p spare m.before m.event m.reply) (run p s events)
    excused_along s h r [] = tt
    excused_along s h r (e ∷ events) =
        (step_excused p (λ n. ranks) limit spare s h (led s.calls r) e, excused_along (step p s e).1 (step_keeps p ok s h e) (step_ranked p (λ n. ranks) limit spare s h (led s.calls r) e) events)

    pub excused_in : OfEveryEvent p (IsExcused p spare)
    excused_in numbers count events = excused_along (opening numbers count) (inv_opening p numbers) none_ranked events

    pub suffice_in : OfEveryEvent p (λ s e r. FewDown p s spare → OthersFree p s e → IsNcByCollision s r)
    suffice_in numbers count events = all_map (run p (opening numbers count) events) (λ m x few free. by_collision p ok spare m.before m.event few free m.reply x) (excused_in numbers count events)

    pub sound : IsSound p limit spare
    sound = record { safe = ranked_in (IsSafe p limit) (λ s h r. safe_state p limit s h (λ c m. safe_call p ok ranks limit spare cert c (h.each c m) (r c m))); excused = excused_in }
