use Rattle.tx_check.proofs.Common.{◌≡◌, true, is_some, length, sym, ◌∙◌, arith, rules, ranks_for, home_not_zero_at}
use Rattle.tx_check.proofs.Finding.{found_at, passed_at, found_none}
use Rattle.tx_check.proofs.passes.home_fault.Goals as goal

pub returns-then-is_some : goal.returns-then-is_some
returns-then-is_some g c =
    let p = c.args.plan.now in
    let ranks = ranks_for p c.args.cert.now in
    let some : is_some c.home_fault_for-found.result ≡ true = search rules in
    found_at (home_not_zero_at p ranks) c.loop-index.index (length p.codes) _ _ (omega arith) c.of.ensures c.home_fault_for-found.ensures some c.loop-index.invariant

pub returns : goal.returns
returns g c =
    let p = c.args.plan.now in
    let ranks = ranks_for p c.args.cert.now in
    found_none (home_not_zero_at p ranks) (length p.codes) (λ k l. c.loop-index.invariant k (omega arith))

pub loop-index-preserved : goal.loop-index-preserved
loop-index-preserved g c =
    let p = c.args.plan.now in
    passed_at (home_not_zero_at p (ranks_for p c.args.cert.now)) c.loop-index.index _ _ c.of.ensures c.home_fault_for-found.ensures (sym c.is_some.ensures ∙ c.if-is_some.false) c.loop-index.invariant
