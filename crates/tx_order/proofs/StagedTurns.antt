-- Where each stage begins with no call being set up, each call has one stage.
use Rattle.tx_order.proofs.Common.{◌≡◌, ℕ, ◌+◌, ◌<◌, ◌≤◌, true, not, nat_le, List, [], ◌∷◌, map, inl, inr, refl, sym, ap, ◌∙◌, subst, arith, AllByRecursion, Plan, SameNetwork, IsMixture, Among, same_back, same_along, changing_run, IsOrder}
use Rattle.std.proofs.lemmas.Bool.{both_ways, le-leb, lt-leb, cases_eq}
use Rattle.std.specs.Prelude.{if◌then◌else◌}
use Rattle.tx_machine.specs.declared.event.Event.{Event}
use Rattle.tx_machine.specs.Call.{Call, is_connected}
use Rattle.tx_machine.specs.State.{State, opening}
use Rattle.tx_machine.specs.Step.{step}
use Rattle.tx_machine.specs.inner.Invariant.{Holds}
use Rattle.tx_machine.proofs.Lists.{all_from_mem, mem_any}
use Rattle.tx_machine.proofs.Invariant.{inv_opening}
use Rattle.tx_machine.proofs.Steps.{step_keeps}
use Rattle.tx_machine.proofs.Moves.{Moves, stays, connects, seizes_one, goes_on, falls_back, came, moves_number}
use Rattle.tx_machine.proofs.Counts.{step_numbers}
use Rattle.tx_machine.proofs.ByNetwork.{holds_by}
use Rattle.tx_order.specs.StagedRuns.{is_being_set_up, IsInForceIn, IsInStages, AreInStages, StagedTurn, AreStagedTurns}
use Rattle.tx_order.proofs.StagedRuns.{between}

-- a call that is being set up after a step was so before it
set_up_before : (p : Plan) (e : Event) (c c' : Call) → Moves p e c c' → is_being_set_up c' ≡ true → is_being_set_up c ≡ true
set_up_before p e c c' (stays q) up = ap is_being_set_up q ∙ up
set_up_before p e c c' (connects l event stands q) up = ap (λ phase. not (is_connected phase)) stands
set_up_before p e c c' (seizes_one x code event stands keyed open' away listed q) up = ap (λ phase. not (is_connected phase)) stands
set_up_before p e c c' (goes_on x calls q) up = ap (λ phase. not (is_connected phase)) calls
set_up_before p e c c' (falls_back x calls first q) up = ap (λ phase. not (is_connected phase)) calls

-- the state after a turn
abbrev after : State → StagedTurn → State
after s t = (step t.turn.plan s t.turn.event).1

-- the stage in which the call of a number is keyed
abbrev keyed_in : State → List StagedTurn → ℕ → ℕ
keyed_in s [] n = 0
keyed_in s (t ∷ turns) n = if nat_le n (after s t).numbers then t.stage else keyed_in (after s t) turns n

module _ (old new : Plan) (plans : ℕ → Plan) (stages limit spare : ℕ) (o : IsOrder old new plans stages limit spare) (stage_of : ℕ → ℕ) where
  in_stages : (turns : List StagedTurn) (before : ℕ) (s : State) → Holds (plans 0) s → ((c : Call) → Among c s.calls → is_being_set_up c ≡ true → stage_of c.number ≡ before) → ((n : ℕ) → s.numbers < n → stage_of n ≡ keyed_in s turns n)
      → AreStagedTurns plans stages before s turns → AllByRecursion (IsInStages plans stages stage_of) (changing_run s (map (λ t. t.turn) turns))
  in_stages [] before s h now later u = tt
  in_stages (t ∷ turns) before s h now later u = (
    record {
      rules = mix.rules;
      network = net;
      calls = all_from_mem (λ c. is_being_set_up c ≡ true → IsInForceIn plans stages (stage_of c.number) p) s.calls (λ c a up. subst (λ i. IsInForceIn plans stages i p) (sym (here c a up)) u.0.in_force);
    },
    in_stages turns t.stage (after s t) kept then' later' u.1,
  )
    where
      p : Plan
      p = t.turn.plan

      mix : IsMixture (plans t.stage) (plans (t.stage + 1)) p
      mix = u.0.in_force.mixture

      net : SameNetwork (plans 0) p
      net = same_along (plans 0) (plans t.stage) p (between old new plans stages limit spare o 0 t.stage) mix.network

      held : Holds p s
      held = holds_by (plans 0) p net s h

      kept : Holds (plans 0) (after s t)
      kept = holds_by p (plans 0) (same_back (plans 0) p net) (after s t) (step_keeps p mix.rules s held t.turn.event)

      here : (c : Call) → Among c s.calls → is_being_set_up c ≡ true → stage_of c.number ≡ t.stage
      here c a up = elim (cases_eq t.stage before) [
        | inl e ↦ now c a up ∙ sym e
        | inr ne ↦ absurd (both_ways _ (u.0.begins ne) (mem_any is_being_set_up s.calls c a up))
      ]

      then' : (c : Call) → Among c (after s t).calls → is_being_set_up c ≡ true → stage_of c.number ≡ t.stage
      then' c a up = elim (came p s held t.turn.event c a) [
        | inl (b, m, moves) ↦ ap stage_of (sym (moves_number p t.turn.event b c moves)) ∙ here b m (set_up_before p t.turn.event b c moves up)
        | inr new ↦
            let d = ap (λ (z : Call). z.number) new.call in
            let given = le-leb c.number (after s t).numbers (kept.given c a) in
            later c.number (omega arith) ∙ ap (λ b. if b then t.stage else keyed_in (after s t) turns c.number) given
      ]

      later' : (n : ℕ) → (after s t).numbers < n → stage_of n ≡ keyed_in (after s t) turns n
      later' n more =
          let few : s.numbers ≤ (after s t).numbers = step_numbers p s t.turn.event in
          let given = lt-leb n (after s t).numbers more in
          later n (omega arith) ∙ ap (λ b. if b then t.stage else keyed_in (after s t) turns n) given

pub staged_in_stages : (old new : Plan) (plans : ℕ → Plan) (stages limit spare : ℕ) → IsOrder old new plans stages limit spare → (numbers count : ℕ) (turns : List StagedTurn)
    → AreStagedTurns plans stages 0 (opening numbers count) turns → AreInStages plans stages (changing_run (opening numbers count) (map (λ t. t.turn) turns))
staged_in_stages old new plans stages limit spare o numbers count turns u =
    let s = opening numbers count in
    (keyed_in s turns, in_stages old new plans stages limit spare o (keyed_in s turns) turns 0 s (inv_opening (plans 0) numbers) (λ c a. elim a [ ]) (λ n more. refl) u)
