use Rattle.tx_requests.proofs.Common.{inr, refl, exits_with, memory_stop}
use Rattle.tx_requests.proofs.through.ThroughRequestRequest.answer.Goals as goal

pub returns : goal.returns
returns g c = (
  rw (c.as_bytes-name.ensures.value, c.as_deref.ensures.value) at c.in_ok-through.ensures,
  rw c.deref.ensures.value at c.in_ok-left.ensures,
  c.in_ok-calls.ensures,
)

pub returns-in_err-through : goal.returns-in_err-through
returns-in_err-through g c =
    rw (exits_with c.from_residual.result c.in_err-through.field-0.0 c.from_residual.ensures.1)
    (rw (c.as_bytes-name.ensures.value, c.as_deref.ensures.value) at c.in_err-through.ensures)

pub returns-in_err-left : goal.returns-in_err-left
returns-in_err-left g c =
    rw (exits_with c.from_residual-in_err-left.result memory_stop c.from_residual-in_err-left.ensures.1)
    (inr refl)

pub returns-in_err-calls : goal.returns-in_err-calls
returns-in_err-calls g c =
    rw (exits_with c.from_residual-in_err-calls.result memory_stop c.from_residual-in_err-calls.ensures.1)
    (inr refl)
