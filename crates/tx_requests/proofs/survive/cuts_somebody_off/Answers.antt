use Rattle.std.proofs.Common.{◌==◌, not, length, rules, tests}
use Rattle.tx_requests.proofs.Common.{YieldsList-from_slice, any_from_yields_List, Outcome}
use Rattle.tx_requests.proofs.survive.cuts_somebody_off.Goals as goal

pub returns : goal.returns
returns g c =
    any_from_yields_List (λ (o : Outcome g.row.A.Denot). not (length o.cuts.items == 0)) _ _ _
    c.any.ensures.ran (YieldsList-from_slice c.args.outcomes.now cc)
    (λ x b q k. search (rules, tests))
