-- Over all stages of an order a run keeps what every run keeps.
use Rattle.tx_order.proofs.Common.{◌≡◌, ℕ, ◌+◌, ◌<◌, true, not, List, inl, inr, ap, arith, cases_lt, AllByRecursion, Plan, Ranks, IsCertified, SameNetwork, AreCommon, all_map, same_back, same_along, is_connected, opening, IsOrder}
use Rattle.tx_plan.proofs.CommonRanks.{mixture_certified}
use Rattle.tx_machine.specs.ChangingRuns.{Turn, Switched, changing_run}
use Rattle.tx_machine.proofs.Steps.{all_mem}
use Rattle.tx_machine.proofs.LiveRuns.{IsLive, IsSoundTurn, sound_along, few_along}
use Rattle.tx_order.specs.StagedRuns.{is_being_set_up, IsInForceIn, IsInStages, AreInStages, AreSoundStages, HaveFewRoutes, SufficeInStages}

module _ (old new : Plan) (plans : ℕ → Plan) (stages limit spare : ℕ) (o : IsOrder old new plans stages limit spare) where
  pub between : (i j : ℕ) → SameNetwork (plans i) (plans j)
  between i j = same_along (plans i) old (plans j) (same_back old (plans i) (o.mixtures i).network) (o.mixtures j).network

  -- ranks of a stage, and of the plan after the last one
  stage_ranks : (i : ℕ) → (ranks : Ranks) × IsCertified (plans i) ranks limit spare × (i < stages → AreCommon (plans i) (plans (i + 1)) ranks limit spare)
  stage_ranks i = elim (cases_lt i stages) [
    | inl l ↦ let r = o.safe i l in (r.0, r.1.before, λ _. r.1)
    | inr ge ↦ let r = o.certified i in (r.0, r.1, λ l. absurd (omega arith))
  ]

  -- each call has those of its stage
  abbrev ranks_of : (ℕ → ℕ) → ℕ → Ranks
  ranks_of stage_of n = (stage_ranks (stage_of n)).0

  live : (stage_of : ℕ → ℕ) (run : List Switched) → AllByRecursion (IsInStages plans stages stage_of) run → AllByRecursion (IsLive (plans 0) (ranks_of stage_of) limit spare) run
  live stage_of run u = all_map run (λ m k. record {
    rules = k.rules;
    network = k.network;
    certified = λ c a stands.
        let i = stage_of c.number in
        let f = all_mem (λ c. is_being_set_up c ≡ true → IsInForceIn plans stages (stage_of c.number) m.plan) m.moment.before.calls c k.calls a (ap (λ phase. not (is_connected phase)) stands) in
        mixture_certified (plans i) (plans (i + 1)) m.plan (stage_ranks i).0 limit spare (between i (i + 1)) ((stage_ranks i).2 f.within) f.mixture;
    served = λ n. let i = stage_of n in record { plan = plans i; rules = (o.mixtures i).rules; network = between 0 i; certified = (stage_ranks i).1 };
  }) u

  module _ (numbers count : ℕ) (turns : List Turn) (w : AreInStages plans stages (changing_run (opening numbers count) turns)) where
    led : AllByRecursion (IsLive (plans 0) (ranks_of w.0) limit spare) (changing_run (opening numbers count) turns)
    led = live w.0 (changing_run (opening numbers count) turns) w.1

    sound : AllByRecursion (IsSoundTurn (plans 0) (ranks_of w.0) limit spare) (changing_run (opening numbers count) turns)
    sound = sound_along (plans 0) (ranks_of w.0) limit spare numbers count turns led

  pub sound_stages : AreSoundStages plans stages limit spare
  sound_stages = record {
    first = λ numbers count q to. record { calls = tt; circuits = tt; lines = tt };
    safe = λ numbers count turns w. all_map (changing_run (opening numbers count) turns) (λ m k. k.safe) (sound numbers count turns w);
    excused = λ numbers count turns w. all_map (changing_run (opening numbers count) turns) (λ m k. k.excused) (sound numbers count turns w);
  }

  pub few_in_stages : HaveFewRoutes plans stages limit
  few_in_stages numbers count turns n w = few_along (plans 0) (ranks_of w.0) limit spare numbers count turns n (led numbers count turns w)

  pub suffice_in_stages : SufficeInStages plans stages spare
  suffice_in_stages numbers count turns w = all_map (changing_run (opening numbers count) turns) (λ m k. k.suffices) (sound numbers count turns w)
