use Rattle.tx_check.proofs.Common.{◌≡◌, true, is_some, length, arith, rules, ranks_for, at_exchanges, origin_unranked_at}
use Rattle.tx_check.proofs.Finding.{found_at, found_none}
use Rattle.tx_check.proofs.passes.origin_fault.Goals as goal

pub returns-then-is_some : goal.returns-then-is_some
returns-then-is_some g c =
    let p = c.args.plan.now in
    let ranks = ranks_for p c.args.cert.now in
    let some : is_some c.origin_fault_for-found.result ≡ true = search rules in
    found_at (λ k. at_exchanges p (origin_unranked_at p ranks k)) c.loop-index.index (length p.codes) _ _ (omega arith) c.of.ensures c.origin_fault_for-found.ensures some c.loop-index.invariant

pub returns : goal.returns
returns g c =
    let p = c.args.plan.now in
    let ranks = ranks_for p c.args.cert.now in
    found_none (λ k. at_exchanges p (origin_unranked_at p ranks k)) (length p.codes) (λ k l. c.loop-index.invariant k (omega arith))
