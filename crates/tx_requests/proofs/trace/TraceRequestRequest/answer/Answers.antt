use Rattle.std.specs.Prelude.{option_map}
use Rattle.tx_requests.proofs.Common.{inr, refl, exits_with, memory_stop}
use Rattle.tx_files.proofs.Asking.{asked_known}
use Rattle.tx_requests.proofs.trace.TraceRequestRequest.answer.Goals as goal

pub returns : goal.returns
returns g c = (
  rw (c.in_ok-trace.ensures.exchange, c.in_ok-trace.ensures.code)
      (rw (c.as_bytes-exchange.ensures.value, c.as_bytes-code.ensures.value, c.as_deref.ensures.value) at c.in_ok-exchange.ensures),
  rw c.deref.ensures.value at c.in_ok-left.ensures,
  c.in_ok-trace.ensures.trace,
)

pub trace_calls-requires-clause-code : goal.trace_calls-requires-clause-code
trace_calls-requires-clause-code g c =
    rw c.in_ok-left.ensures
    (asked_known c.args.texts c.as_bytes-exchange.result.now c.as_bytes-code.result.now (option_map (λ w. w.now) c.as_deref.result) _ c.in_ok-exchange.ensures).1

pub trace_calls-requires-clause-exchange : goal.trace_calls-requires-clause-exchange
trace_calls-requires-clause-exchange g c =
    rw c.in_ok-left.ensures
    (asked_known c.args.texts c.as_bytes-exchange.result.now c.as_bytes-code.result.now (option_map (λ w. w.now) c.as_deref.result) _ c.in_ok-exchange.ensures).0

pub returns-in_err-exchange : goal.returns-in_err-exchange
returns-in_err-exchange g c =
    rw (exits_with c.from_residual.result c.in_err-exchange.field-0.0 c.from_residual.ensures.1)
    (rw (c.as_bytes-exchange.ensures.value, c.as_bytes-code.ensures.value, c.as_deref.ensures.value) at c.in_err-exchange.ensures)

pub returns-in_err-left : goal.returns-in_err-left
returns-in_err-left g c =
    rw (exits_with c.from_residual-in_err-left.result memory_stop c.from_residual-in_err-left.ensures.1)
    (inr refl)

pub returns-in_err-trace : goal.returns-in_err-trace
returns-in_err-trace g c =
    rw (exits_with c.from_residual-in_err-trace.result memory_stop c.from_residual-in_err-trace.ensures.1)
    (inr refl)
