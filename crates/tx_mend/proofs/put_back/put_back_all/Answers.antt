use Rattle.tx_mend.proofs.Common.{◌≡◌, ℕ, ◌∙◌, List, sym, ap, arith, flat_map, fold, indexes, put_back, choice_at, rank_list}
use Rattle.tx_mend.proofs.Trying.{fold_more, still_long}
use Rattle.tx_mend.proofs.put_back.put_back_all.Goals as goal

pub loop-choice-preserved : goal.loop-choice-preserved
loop-choice-preserved g c =
    let t = c.args.task.now in
    let p = t.plan.now in
    let i = c.loop-choice.invariant in
    let put = put_back p c.args.code t.limits.limit t.limits.spare in
    let rows : ℕ → List (ℕ × ℕ) = λ j. flat_map (choice_at p c.args.code j) c.args.exchanges.now in
    let n = c.loop-choice.choice in
    record {
      long = still_long p (λ of. fold put of (rows n)) c.loop-choice.ranks.items c.put_back_choice.new.ranks.items i.long c.in_ok-put_back_choice.ensures;
      put = λ of e. c.in_ok-put_back_choice.ensures (fold put of (flat_map rows (indexes n))) (i.put of e) ∙ sym (ap (rank_list p) (fold_more put of rows n));
    }

pub returns : goal.returns
returns g c = λ of e.
    let t = c.args.task.now in
    let p = t.plan.now in
    let put = put_back p c.args.code t.limits.limit t.limits.spare in
    let rows : ℕ → List (ℕ × ℕ) = λ j. flat_map (choice_at p c.args.code j) c.args.exchanges.now in
    let all : c.loop-choice.choice ≡ 16 = let t = c.loop-choice-test.false in let a = c.loop-choice.auto.choice-end in omega arith in
    c.loop-choice.invariant.put of e ∙ ap (λ n. rank_list p (fold put of (flat_map rows (indexes n)))) all
