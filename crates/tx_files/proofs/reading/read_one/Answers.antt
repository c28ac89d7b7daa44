use Rattle.tx_files.proofs.Common.{refl, exits_with, plan_stop}
use Rattle.tx_files.proofs.reading.read_one.Goals as goal

pub returns-clause-text : goal.returns-clause-text
returns-clause-text g c =
    (c.in_ok-read_plan_from.ensures.rules, c.in_ok-read_plan_from.ensures.answer)

pub returns-in_err-read_plan_from-clause-text : goal.returns-in_err-read_plan_from-clause-text
returns-in_err-read_plan_from-clause-text g c =
    let f = c.in_err-read_plan_from.field-0.0 in
    rw (exits_with c.from_residual.result (plan_stop f) c.from_residual.ensures.1)
    (record { fault = f; read = c.in_err-read_plan_from.ensures.answer; is = refl })
