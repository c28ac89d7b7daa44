use Rattle.tx_check.proofs.Common.{◌≡◌, true, is_some, length, arith, rules, ranks_for, origin_unranked_at}
use Rattle.tx_check.proofs.Finding.{found_at, found_none}
use Rattle.tx_check.proofs.passes.origin_fault_for.Goals as goal

pub returns-then-is_some : goal.returns-then-is_some
returns-then-is_some g c =
    let p = c.args.plan.now in
    let ranks = ranks_for p c.args.cert.now in
    let some : is_some c.origin_fault_at-found.result ≡ true = search rules in
    found_at (origin_unranked_at p ranks c.args.code) c.loop-index.index (length p.exchanges) _ _ (omega arith) c.of-exchange.ensures c.origin_fault_at-found.ensures some c.loop-index.invariant

pub returns : goal.returns
returns g c =
    let p = c.args.plan.now in
    let ranks = ranks_for p c.args.cert.now in
    found_none (origin_unranked_at p ranks c.args.code) (length p.exchanges) (λ k l. c.loop-index.invariant k (omega arith))
