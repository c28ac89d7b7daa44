-- The steps of a walk, shown one after another.
use Rattle.std.proofs.Common.{◌≡◌, ℕ, ◌+◌, ◌<◌, ◌≤◌, List, [], ◌∷◌, ◌++◌, length, drop, get_or, sym, ap, ◌∙◌, append_assoc}
use Rattle.std.proofs.lemmas.List.{at_drop_more, drop_all}
use Rattle.tx_plan.specs.Plan.{Plan, exchange_name}
use Rattle.tx_html.specs.Shows.{Seen, Sets}
use Rattle.tx_page.specs.WrongTexts.{step_texts, steps_texts}
use Rattle.tx_html.proofs.Showing.{sets_then, sets_is}

-- what stands before the steps that are left was set, up to the exchange `at`
pub record StepsSet {W : Type 0} (seen : W → Seen) (p : Plan) (c start : ℕ) (steps : List (ℕ × ℕ)) (at i : ℕ) (a b : W) : Type 0 where
  pub front : List (List ℕ)
  pub sets : Sets seen a b front
  pub left : front ++ steps_texts p c at (drop i steps) ≡ steps_texts p c start steps

module _ {W : Type 0} {seen : W → Seen} {p : Plan} {c start : ℕ} {steps : List (ℕ × ℕ)} where
  pub step_set : {at i : ℕ} {s : ℕ × ℕ} {a b d : W} → i < length steps → s ≡ get_or steps i s
      → StepsSet seen p c start steps at i a b → Sets seen b d (step_texts p c at s.0) → StepsSet seen p c start steps s.1 (i + 1) a d
  step_set {at} {i} {s} low is v w =
      let here = step_texts p c at s.0 in
      let rest = steps_texts p c s.1 (drop (i + 1) steps) in
      let more : drop i steps ≡ s ∷ drop (i + 1) steps = at_drop_more (λ l. l) steps i s low ∙ ap (λ y. y ∷ drop (i + 1) steps) (sym is) in
      record {
        front = v.front ++ here;
        sets = sets_then v.sets w;
        left = append_assoc v.front here rest ∙ ap (λ l. v.front ++ steps_texts p c at l) (sym more) ∙ v.left;
      }

  pub all_steps_set : {at i : ℕ} {a b d : W} → length steps ≤ i → StepsSet seen p c start steps at i a b → Sets seen b d (exchange_name p at ∷ []) → Sets seen a d (steps_texts p c start steps)
  all_steps_set {at} {i} all v w =
      sets_is (sym (ap (λ l. v.front ++ steps_texts p c at l) (sym (drop_all i steps all)) ∙ v.left)) (sets_then v.sets w)
