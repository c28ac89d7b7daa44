use Rattle.tx_mend.proofs.Common.{◌∙◌, take, sym, ap, arith, flat_map, fold, put_back, choice_at, rank_list}
use Rattle.std.proofs.lemmas.List.{take_all}
use Rattle.tx_mend.proofs.Trying.{fold_taken, still_long}
use Rattle.tx_mend.proofs.put_back.put_back_choice.Goals as goal

pub loop-exchange-preserved : goal.loop-exchange-preserved
loop-exchange-preserved g c =
    let t = c.args.task.now in
    let p = t.plan.now in
    let i = c.loop-exchange.invariant in
    let put = put_back p c.args.code t.limits.limit t.limits.spare in
    let rows = choice_at p c.args.code c.args.choice in
    let xs = c.args.exchanges.now in
    record {
      long = still_long p (λ of. fold put of (rows c.exchange-item.result)) c.loop-exchange.ranks.items c.put_back_at.new.ranks.items i.long c.in_ok-put_back_at.ensures;
      put = λ of e.
          c.in_ok-put_back_at.ensures (fold put of (flat_map rows (take c.loop-exchange.exchange-index xs))) (i.put of e)
          ∙ sym (ap (rank_list p) (fold_taken put of rows xs c.loop-exchange.exchange-index c.exchange-item.result c.loop-exchange-test.true c.exchange-item.is));
    }

pub returns : goal.returns
returns g c = λ of e.
    let t = c.args.task.now in
    let p = t.plan.now in
    let put = put_back p c.args.code t.limits.limit t.limits.spare in
    c.loop-exchange.invariant.put of e
    ∙ ap (λ l. rank_list p (fold put of (flat_map (choice_at p c.args.code c.args.choice) l))) (take_all c.loop-exchange.exchange-index c.args.exchanges.now (let t = c.loop-exchange-test.false in omega arith))
