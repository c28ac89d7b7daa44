use Rattle.tx_requests.proofs.Common.{inl, inr, refl, exits_with, memory_stop}
use Rattle.tx_requests.proofs.order.OrderRequestRequest.answer.Goals as goal

pub judge_order-requires : goal.judge_order-requires
judge_order-requires g c = c.requires.joined.network.same

pub returns-in-None : goal.returns-in-None
returns-in-None g c = (refl, refl, c.in_ok-verdict.ensures, c.in-None.ensures.there)

pub returns-in-Some : goal.returns-in-Some
returns-in-Some g c = inl (record {
  verdict = c.in_ok-verdict.verdict;
  right = c.in_ok-verdict.ensures;
  stages = c.in-Some.stages;
  missing = c.in-Some.ensures.missing;
  told = refl;
})

pub returns-in_err-verdict : goal.returns-in_err-verdict
returns-in_err-verdict g c =
    rw (exits_with c.from_residual.result memory_stop c.from_residual.ensures.1) (inr refl)
