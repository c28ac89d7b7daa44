use Rattle.tx_risk.proofs.AddedOutages.{risks_within}
use Rattle.tx_requests.proofs.Grading.{plan_is}
use Rattle.tx_requests.proofs.page_found.found_of.Goals as goal

pub returns : goal.returns
returns g c =
    let e = c.in_ok-grade.ensures in
    let grade = c.in_ok-grade.grade in
    let plan = plan_is _ c.args.plan.now c.rules.ensures grade.findings.items grade.plan
    e.plan e.clear e.fails e.clean e.each e.listed in
    record {
      ranking = c.in_ok-ranking.ensures;
      grade = (plan, e.codes);
      heights = e.heights;
      outcomes = c.in_ok-outcomes.ensures.outcomes;
      none = c.in_ok-outcomes.ensures.none;
    }

pub outcomes_of-requires-clause-risks : goal.outcomes_of-requires-clause-risks
outcomes_of-requires-clause-risks g c = risks_within c.args.plan.now c.args.risks.now c.requires
