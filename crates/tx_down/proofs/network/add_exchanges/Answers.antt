use Rattle.tx_down.proofs.Common.{◌∙◌, ap, arith, no_plan, exchange_name, exits_with, taken_last}
use Rattle.tx_down.proofs.Taking.{exchange_fits, exchange_added, out_of_memory}
use Rattle.tx_down.proofs.network.add_exchanges.Goals as goal

pub returns-in_err-exchange-clause-memory : goal.returns-in_err-exchange-clause-memory
returns-in_err-exchange-clause-memory g c =
    let from = c.args.from.now in
    let t = c.loop-index-test.true in
    let n = c.exchanges-index-end.ensures.count in
    let named = c.exchange_name.ensures.value ∙ ap (exchange_name from) c.of.ensures in
    rw (exits_with c.from_residual.result c.in_err-exchange.field-0.0 c.from_residual.ensures.1)
    (out_of_memory _ _ (exchange_fits from c.exchanges-index-end.ensures.rules c.loop-index.builder _
    c.loop-index.index (omega arith) c.loop-index.invariant named) c.in_err-exchange.ensures.1)

pub loop-index-preserved : goal.loop-index-preserved
loop-index-preserved g c =
    let from = c.args.from.now in
    let t = c.loop-index-test.true in
    let n = c.exchanges-index-end.ensures.count in
    let named = c.exchange_name.ensures.value ∙ ap (exchange_name from) c.of.ensures in
    c.in_ok-exchange.ensures.1 ∙ exchange_added from c.exchanges-index-end.ensures.rules c.loop-index.builder _
    c.loop-index.index (omega arith) c.loop-index.invariant named

pub returns-clause-added : goal.returns-clause-added
returns-clause-added g c =
    let t = c.loop-index-test.false in
    let a = c.loop-index.auto.index-end in
    let n = c.exchanges-index-end.ensures.count in
    c.loop-index.invariant
    ∙ (λ j. record no_plan { exchanges = taken_last c.args.from.now.exchanges c.loop-index.index (omega arith) j })
