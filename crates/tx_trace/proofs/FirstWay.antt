-- The first way, step by step.
use Rattle.tx_trace.proofs.Common.{◌≡◌, ℕ, zero, suc, ◌+◌, ◌-◌, ◌<◌, ◌≤◌, Bool, true, List, [], ◌∷◌, ◌++◌, length, Some, None, sym, ap, subst, ◌∙◌, arith, append-nil, option_to_list, length_push, set, length-set, Plan, end_of, before_end, end_push, before_longer, AreMarksOf}
use Rattle.tx_trace.specs.Ways.{next_step, one_on, way_within, first_way}
use Rattle.tx_trace.proofs.Ends.{marks_push}

-- the way so far, and the marks of the exchanges that it has passed
pub record IsGoing (p : Plan) (c x last : ℕ) (way : List (ℕ × ℕ)) (marks : List Bool) : Type 0 where
  pub is : way ≡ way_within p c x (length way)
  pub few : length way ≤ length p.exchanges
  pub at : last ≡ end_of x way
  pub within : last < length p.exchanges
  pub long : length marks ≡ length p.exchanges
  pub marked : AreMarksOf (before_end x way) marks

module _ (p : Plan) (c x : ℕ) where
  pub going_on : (last : ℕ) (way : List (ℕ × ℕ)) (marks : List Bool) (s : ℕ × ℕ) → IsGoing p c x last way marks → length way < length p.exchanges → Some s ≡ next_step p c x way → s.1 < length p.exchanges → IsGoing p c x s.1 (way ++ s ∷ []) (set marks last true)
  going_on last way marks s g more e h =
      let long = length_push way s in
      record {
        is = ap (λ o. way ++ option_to_list o) e ∙ ap (one_on p c x) g.is ∙ ap (way_within p c x) (let z : suc (length way) ≡ length (way ++ s ∷ []) = omega arith in z);
        few = omega arith;
        at = sym (end_push x way s);
        within = h;
        long = length-set marks last true ∙ g.long;
        marked =
            let fits : last < length marks = let w = g.within in let n = g.long in omega arith in
            subst (λ l. AreMarksOf l (set marks last true)) (ap (λ y. before_end x way ++ y ∷ []) g.at ∙ sym (before_longer x way s)) (marks_push (before_end x way) last marks g.marked fits);
      }

  -- a way that has no next step stays
  stays : (k j : ℕ) → None ≡ next_step p c x (way_within p c x k) → way_within p c x (k + j) ≡ way_within p c x k
  stays k zero e = ap (way_within p c x) (let z : k + zero ≡ k = omega arith in z)
  stays k (suc j) e =
      ap (way_within p c x) (let z : k + suc j ≡ suc (k + j) = omega arith in z)
      ∙ ap (one_on p c x) (stays k j e)
      ∙ ap (λ o. way_within p c x k ++ option_to_list o) (sym e)
      ∙ append-nil (way_within p c x k)

  pub ended : (last : ℕ) (way : List (ℕ × ℕ)) (marks : List Bool) → IsGoing p c x last way marks → None ≡ next_step p c x way → way ≡ first_way p c x
  ended last way marks g e =
      let few = g.few in
      let rest = length p.exchanges - length way in
      g.is ∙ sym (stays (length way) rest (e ∙ ap (next_step p c x) g.is)) ∙ ap (way_within p c x) (let z : length way + rest ≡ length p.exchanges = omega arith in z)

  pub gone : (last : ℕ) (way : List (ℕ × ℕ)) (marks : List Bool) → IsGoing p c x last way marks → length p.exchanges ≤ length way → way ≡ first_way p c x
  gone last way marks g h = let few = g.few in g.is ∙ ap (way_within p c x) (let z : length way ≡ length p.exchanges = omega arith in z)
