use Rattle.tx_check.proofs.Common.{sym, ranks_for}
use Rattle.tx_check.proofs.PairFaults.{pair_firsts}
use Rattle.tx_check.proofs.lists.pair_faults.Goals as goal

pub returns : goal.returns
returns g c =
    let p = c.args.plan.now in
    pair_firsts p (ranks_for p c.args.cert.now) c.args.spare c.args.code c.args.exchange c.in-Some.rank _ _ _ _ _ _ (sym c.in-Some.ensures) c.list-list.ensures.value c.first_wrong-unranked.ensures.unranked c.first_wrong-unranked.ensures.not_lower c.short_fault.ensures c.unranked_fault.ensures c.not_lower_fault.ensures
