use Rattle.tx_cert.specs.Certificate.{ranks_of}
use Rattle.tx_risk.proofs.AddedOutages.{risks_within}
use Rattle.tx_risk.proofs.surviving.survive.Goals as goal

pub all_outcomes-requires-clause-certified : goal.all_outcomes-requires-clause-certified
all_outcomes-requires-clause-certified g c =
    let b = c.in-Some.field-0 in
    (b.limit, b.spare, rw c.in-Some.is at c.in_ok-grade.ensures.ranks)

pub returns-in_ok-outcomes-in-Some-clause-tried : goal.returns-in_ok-outcomes-in-Some-clause-tried
returns-in_ok-outcomes-in-Some-clause-tried g c =
    let b = c.in-Some.field-0 in
    let cert = rw c.in-Some.is at c.in_ok-grade.ensures.ranks in
    (λ t. (b.limit, b.spare, (ranks_of c.in_ok-grade.grade.ranks, cert)), λ h. tt)

pub returns-in-None-clause-tried : goal.returns-in-None-clause-tried
returns-in-None-clause-tried g c = (
  λ t. absurd t,
  λ h. (rw c.in-None.is at c.in_ok-grade.ensures.plan) h.0 h.1 h.2,
)

pub returns-in-None-clause-fails : goal.returns-in-None-clause-fails
returns-in-None-clause-fails g c = rw c.in-None.is at c.in_ok-grade.ensures.fails

pub all_outcomes-requires-clause-risks : goal.all_outcomes-requires-clause-risks
all_outcomes-requires-clause-risks g c = risks_within c.args.plan.now c.args.risks.now c.requires
