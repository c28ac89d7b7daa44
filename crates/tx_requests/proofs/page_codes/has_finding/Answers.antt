use Rattle.tx_requests.proofs.Common.{rules, tests, YieldsList-from_slice, any_from_yields_List, Finding}
use Rattle.tx_requests.specs.PageCodes.{is_about}
use Rattle.tx_requests.proofs.page_codes.has_finding.Goals as goal

pub returns-in-Fails : goal.returns-in-Fails
returns-in-Fails g c =
    rw c.in-Fails.is
    (any_from_yields_List (λ (f : Finding g.row.A.Denot). is_about c.args.code f) _ _ _ c.any.ensures.ran
    (YieldsList-from_slice c.in-Fails.findings.items cc) (λ x b q k. search (rules, tests)))
