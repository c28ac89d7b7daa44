use Rattle.tx_requests.proofs.Common.{inr, refl, exits_with, memory_stop}
use Rattle.tx_requests.proofs.fill.FillRequestRequest.answer.Goals as goal

pub returns : goal.returns
returns g c = (
  refl,
  rw (c.as_bytes-exchange.ensures.value, c.as_bytes-code.ensures.value, c.as_deref.ensures.value) at c.in_ok-exchange.ensures,
  rw c.deref.ensures.value at c.in_ok-found.ensures,
)

pub returns-in_err-exchange : goal.returns-in_err-exchange
returns-in_err-exchange g c =
    rw (exits_with c.from_residual.result c.in_err-exchange.field-0.0 c.from_residual.ensures.1)
    (rw (c.as_bytes-exchange.ensures.value, c.as_bytes-code.ensures.value, c.as_deref.ensures.value) at c.in_err-exchange.ensures)

pub returns-in_err-found : goal.returns-in_err-found
returns-in_err-found g c =
    rw (exits_with c.from_residual-in_err-found.result memory_stop c.from_residual-in_err-found.ensures.1)
    (inr refl)
