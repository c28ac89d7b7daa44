-- No call for a code that is closed leaves the exchange where it started.
use Rattle.tx_change.proofs.Common.{◌≡◌, ◌≢◌, ℕ, ◌<◌, true, ◌&&◌, ◌==◌, List, [], ◌∷◌, length, Option, Some, inl, inr, refl, sym, ap, ◌∙◌, subst, eqb-true, eq-eqb, list_any, AllByRecursion, option_map_or, and_parts, true≢false, is_barred, SameNetwork, IsMixture, Among, Event, any_mem}
use Rattle.tx_text.specs.Words.{are_figures}
use Rattle.tx_plan.specs.declared.range.LineRange.{LineRange}
use Rattle.tx_plan.specs.declared.ids.Line.{Line}
use Rattle.tx_plan.specs.declared.ids.Circuit.{Circuit}
use Rattle.tx_plan.specs.Plan.{Plan, Code, home_of}
use Rattle.tx_plan.specs.Rules.{IsPlan, IsRange, IsCode}
use Rattle.tx_plan.specs.Codes.{code_of}
use Rattle.tx_plan.specs.Lines.{is_line, in_range}
use Rattle.tx_plan.proofs.ByIndex.{entry_at, all_at}
use Rattle.tx_plan.proofs.Networks.{same_back, homes_same}
use Rattle.tx_machine.specs.declared.open_call.Phase.TheVariants.{Calling}
use Rattle.tx_machine.specs.Call.{Call, circuit_called, exchange_of, last_exchange, start_of, is_first}
use Rattle.tx_machine.specs.State.{State, opening}
use Rattle.tx_machine.specs.Step.{step}
use Rattle.tx_machine.specs.ChangingRuns.{Turn, changing_run, AreMixtures}
use Rattle.tx_machine.specs.inner.Invariant.{Holds}
use Rattle.tx_machine.proofs.Invariant.{inv_opening}
use Rattle.tx_machine.proofs.Steps.{step_keeps}
use Rattle.tx_machine.proofs.ByNetwork.{holds_by}
use Rattle.tx_machine.proofs.Moves.{Moves, stays, connects, seizes_one, goes_on, falls_back, came}
use Rattle.tx_change.specs.ClosedCodes.{IsClosed, HasNotLeft, NoneHasLeft}

-- a call that has seized a circuit has left
seizing : (c : Call) (x : Circuit) → c.phase ≡ Calling x → HasNotLeft c → ⊥
seizing c x calls h = let e : (x ∷ []) ≡ [] = ap circuit_called (sym calls) ∙ h.seized in let bad : ⊥ = cc in bad

-- a line is at home at an exchange of the plan
line_home : (p : Plan) → IsPlan p → (l : Line) → is_line p l ≡ true → home_of p l.code < length p.exchanges
line_home p ok l h =
    let t = λ (r : LineRange). (r.code == l.code) && in_range l.national r in
    let r = any_mem t p.ranges (and_parts (are_figures 1 9 l.national) (list_any t p.ranges) h).1 in
    let rules = member p.ranges r.0 ok.ranges r.1 in
    let code = eqb-true r.0.code l.code (and_parts (r.0.code == l.code) (in_range l.national r.0) r.2).0 in
    let within = subst (λ n. n < length p.codes) code rules.code in
    let e = entry_at p.codes l.code within in
    subst (λ (o : Option Code). option_map_or (λ (k : Code). k.home) o 0 < length p.exchanges) (sym e.1) (all_at (IsCode p) p.codes l.code e.0 ok.codes e.1).home
  where
    member : (xs : List LineRange) (r : LineRange) → AllByRecursion (IsRange p) xs → Among r xs → IsRange p r
    member [] r h m = elim m [ ]
    member (x ∷ xs) r h (inl e) = subst (IsRange p) e h.0
    member (x ∷ xs) r h (inr m) = member xs r h.1 m

module _ (old new : Plan) (code : ℕ) (same : SameNetwork old new) (old_closed : IsClosed old code) (new_closed : IsClosed new code) where
  module _ (m : Plan) (mix : IsMixture old new m) where
    -- it is closed in each mixture
    closed_there : IsClosed m code
    closed_there x l away =
        let within : x < length old.exchanges = subst (λ (xs : List (List ℕ)). x < length xs) (sym mix.network.exchanges) l in
        let apart : home_of old code ≢ x = λ e. away (homes_same old m mix.network code ∙ e) in
        elim (mix.bars x code) [
          | inl e ↦ e ∙ old_closed x within apart
          | inr e ↦ e ∙ new_closed x (subst (λ (xs : List (List ℕ)). x < length xs) same.exchanges within) (λ q. apart (sym (homes_same old new same code) ∙ q))
        ]

    same_code : (keyed : List ℕ) → code_of old keyed ≡ code_of m keyed
    same_code keyed = λ i. code_of (record old { codes = mix.network.codes i }) keyed

    moved : (e : Event) (c c' : Call) → is_line m c.line ≡ true → Moves m e c c' → (code_of old c.keyed ≡ Some code → HasNotLeft c) → code_of old c'.keyed ≡ Some code → HasNotLeft c'
    moved e c c' known (stays q) k keyed = subst HasNotLeft q (k (ap (λ (c : Call). code_of old c.keyed) q ∙ keyed))
    moved e c c' known (connects l i p q) k keyed =
        let h = k (ap (λ (c : Call). code_of old c.keyed) q ∙ keyed) in
        subst HasNotLeft q (record { hops = h.hops; seized = refl })
    moved e c c' known (seizes_one x d i p keyed_d open' away listed q) k keyed =
        let keyed_c : code_of old c.keyed ≡ Some code = ap (λ (c : Call). code_of old c.keyed) q ∙ keyed in
        let h = k keyed_c in
        let is : Some d ≡ Some code = sym keyed_d ∙ sym (same_code c.keyed) ∙ keyed_c in
        let at : d ≡ code = cc in
        let start : exchange_of m c ≡ start_of m c = ap (last_exchange (start_of m c)) h.hops in
        let within : exchange_of m c < length m.exchanges = subst (λ y. y < length m.exchanges) (sym start) (line_home m mix.rules c.line known) in
        let barred = closed_there (exchange_of m c) within (λ z. true≢false (sym (eq-eqb (home_of m code) (exchange_of m c) z) ∙ ap (λ y. home_of m y == exchange_of m c) (sym at) ∙ away)) in
        absurd (true≢false (sym ((λ j. is_first (h.hops j) && is_barred m (exchange_of m c) (at j)) ∙ barred) ∙ open'))
    moved e c c' known (goes_on x calls q) k keyed = absurd (seizing c x calls (k (ap (λ (c : Call). code_of old c.keyed) q ∙ keyed)))
    moved e c c' known (falls_back x calls first q) k keyed = absurd (seizing c x calls (k (ap (λ (c : Call). code_of old c.keyed) q ∙ keyed)))

    turn_stays : (s : State) (e : Event) → Holds old s → NoneHasLeft old code s → NoneHasLeft old code (step m s e).1
    turn_stays s e h k c' n keyed =
        let here = holds_by old m mix.network s h in
        elim (came m s here e c' n) [
          | inl w ↦ moved e w.0 c' (here.each w.0 w.1).known w.2 (k w.0 w.1) keyed
          | inr w ↦ subst HasNotLeft w.call (record { hops = refl; seized = refl })
        ]

    turn_keeps : (s : State) (e : Event) → Holds old s → Holds old (step m s e).1
    turn_keeps s e h = holds_by m old (same_back old m mix.network) (step m s e).1 (step_keeps m mix.rules s (holds_by old m mix.network s h) e)

  along : (s : State) → Holds old s → NoneHasLeft old code s → (turns : List Turn) → AreMixtures old new turns → AllByRecursion (λ m. NoneHasLeft old code m.moment.after) (changing_run s turns)
  along s h k [] u = tt
  along s h k (t ∷ turns) u =
      let next = turn_stays t.plan u.0 s t.event h k in
      (next, along (step t.plan s t.event).1 (turn_keeps t.plan u.0 s t.event h) next turns u.1)

  pub none_leaves : (numbers count : ℕ) (turns : List Turn) → AreMixtures old new turns → AllByRecursion (λ m. NoneHasLeft old code m.moment.after) (changing_run (opening numbers count) turns)
  none_leaves numbers count turns u = along (opening numbers count) (inv_opening old numbers) (λ c m. elim m [ ]) turns u
