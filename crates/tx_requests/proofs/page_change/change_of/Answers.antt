use Rattle.tx_requests.proofs.Common.{refl, exits_with}
use Rattle.tx_requests.proofs.page_change.change_of.Goals as goal

pub returns-in_ok-change-in-Some-clause-right : goal.returns-in_ok-change-in-Some-clause-right
returns-in_ok-change-in-Some-clause-right g c =
    rw c.in-Some.is c.in_ok-change-in-Some.ensures.right

pub returns-in_err-change-in-Some-clause-refused : goal.returns-in_err-change-in-Some-clause-refused
returns-in_err-change-in-Some-clause-refused g c =
    rw (c.in-Some.is, exits_with c.from_residual.result c.in_err-change-in-Some.field-0.0 c.from_residual.ensures.1)
    c.in_err-change-in-Some.ensures.refused

pub returns-in-None-clause-right : goal.returns-in-None-clause-right
returns-in-None-clause-right g c = rw c.in-None.is refl
