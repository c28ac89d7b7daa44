use Rattle.tx_mend.proofs.Common.{◌≡◌, ℕ, Option, length, flat_map, fold, indexes, put_back, choice_at, rank_list}
use Rattle.tx_mend.proofs.put_back.put_back_all.Given as goal

abbrev pub invariant-loop-choice : goal.invariant-loop-choice
invariant-loop-choice g l = record {
  long : length l.ranks.items ≡ length l.task.plan.now.exchanges;
  put : (of : ℕ → Option ℕ) → l.initial.ranks.items ≡ rank_list l.task.plan.now of
      → l.ranks.items ≡ rank_list l.task.plan.now (fold (put_back l.task.plan.now l.code l.task.limits.limit l.task.limits.spare) of
      (flat_map (λ j. flat_map (choice_at l.task.plan.now l.code j) l.exchanges) (indexes l.choice)));
}
