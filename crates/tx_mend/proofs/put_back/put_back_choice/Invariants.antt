use Rattle.tx_mend.proofs.Common.{◌≡◌, ℕ, Option, length, take, flat_map, fold, put_back, choice_at, rank_list}
use Rattle.tx_mend.proofs.put_back.put_back_choice.Given as goal

abbrev pub invariant-loop-exchange : goal.invariant-loop-exchange
invariant-loop-exchange g l = record {
  long : length l.ranks.items ≡ length l.task.plan.now.exchanges;
  put : (of : ℕ → Option ℕ) → l.initial.ranks.items ≡ rank_list l.task.plan.now of
      → l.ranks.items ≡ rank_list l.task.plan.now (fold (put_back l.task.plan.now l.code l.task.limits.limit l.task.limits.spare) of (flat_map (choice_at l.task.plan.now l.code l.choice) (take l.exchange-index l.exchanges)));
}
