-- A change with calls up keeps what a run keeps.
use Rattle.tx_machine.proofs.Common.{ℕ, List, [], ◌∷◌, AllByRecursion, Plan, Ranks, mixture_certified, all_map, State, opening, step}
use Rattle.tx_plan.specs.Mixtures.{SameNetwork, AreCommon}
use Rattle.tx_machine.specs.ChangingRuns.{Turn, changing_run, AreMixtures, IsSoundChange, HasFewRoutesMeanwhile, SufficesMeanwhile}
use Rattle.tx_machine.proofs.LiveRuns.{IsLive, sound_along, few_along}

module _ (old new : Plan) (ranks : Ranks) (limit spare : ℕ) (same : SameNetwork old new) (both : AreCommon old new ranks limit spare) where
  -- each call has the same ranks
  live : (s : State) (turns : List Turn) → AreMixtures old new turns → AllByRecursion (IsLive old (λ n. ranks) limit spare) (changing_run s turns)
  live s [] u = tt
  live s (t ∷ turns) u =
      let cert = mixture_certified old new t.plan ranks limit spare same both u.0 in (
        record {
          rules = u.0.rules;
          network = u.0.network;
          certified = λ c m stands. cert;
          served = λ n. record { plan = t.plan; rules = u.0.rules; network = u.0.network; certified = cert };
        },
        live (step t.plan s t.event).1 turns u.1,
      )

  pub sound_change : IsSoundChange old new limit spare
  sound_change = record {
    first = λ numbers count q to. record { calls = tt; circuits = tt; lines = tt };
    safe = λ numbers count turns u. all_map (changing_run (opening numbers count) turns) (λ m k. k.safe) (sound_along old (λ n. ranks) limit spare numbers count turns (live (opening numbers count) turns u));
    excused = λ numbers count turns u. all_map (changing_run (opening numbers count) turns) (λ m k. k.excused) (sound_along old (λ n. ranks) limit spare numbers count turns (live (opening numbers count) turns u));
  }

  pub few_meanwhile : HasFewRoutesMeanwhile old new limit
  few_meanwhile numbers count turns n u = few_along old (λ n. ranks) limit spare numbers count turns n (live (opening numbers count) turns u)

  pub suffice_meanwhile : SufficesMeanwhile old new spare
  suffice_meanwhile numbers count turns u = all_map (changing_run (opening numbers count) turns) (λ m k. k.suffices) (sound_along old (λ n. ranks) limit spare numbers count turns (live (opening numbers count) turns u))
