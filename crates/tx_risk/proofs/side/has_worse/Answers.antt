use Rattle.tx_risk.proofs.Common.{rules, tests, any_from_yields_List, Cut}
use Rattle.std.proofs.lemmas.Iterator.{YieldsList-from_slice}
use Rattle.tx_risk.specs.Compared.{stray_in, is_worse_than}
use Rattle.tx_risk.proofs.side.has_worse.Goals as goal

pub returns : goal.returns
returns g c =
    let a = c.args in
    any_from_yields_List
    (λ (k : Cut). is_worse_than (stray_in a.plan.now a.other.now a.others.now k) k) _ _ _
    c.any.ensures.ran (YieldsList-from_slice a.mine.now cc)
    (λ x b q k. search (rules, tests))
