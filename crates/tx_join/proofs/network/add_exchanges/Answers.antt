use Rattle.tx_join.proofs.Common.{◌∙◌, ap, sym, arith, Plan, exchange_name, has_exchange}
use Rattle.tx_join.proofs.NextDeclared.{no_exchange, all_exchanges, is_taken, taken_next}
use Rattle.tx_join.proofs.StepsDeclared.{exchange_fits, exchange_added, exchange_passed}
use Rattle.tx_join.proofs.network.add_exchanges.Goals as goal
use Rattle.tx_join.proofs.network.add_exchanges.Goals.{then-not-has_exchange+in_ok-taken, else-not-has_exchange}

pub loop-index-init : goal.loop-index-init
loop-index-init g c = no_exchange c.args.builder.now c.args.from.now

pub taken-requires : goal.taken-requires
taken-requires g c =
    let from = c.args.from.now in
    let t = c.loop-index-test.true in
    let n = c.exchanges-index-end.ensures.count in
    let named = c.exchange_name-name.ensures.value ∙ ap (exchange_name from) c.of.ensures in
    let known = sym (c.has_exchange.ensures ∙ ap (λ (p : Plan). has_exchange p c.exchange_name-name.result.now) c.plan.ensures) in
    is_taken _ _ _ _ c.exchange.result (exchange_fits c.args.builder.now from c.loop-index.builder _ c.loop-index.index c.exchanges-index-end.ensures.rules (omega arith) c.loop-index.invariant named c.requires.rules (known ∙ c.if-not-has_exchange.true)) c.exchange.ensures

pub loop-index-preserved : goal.loop-index-preserved
loop-index-preserved g c =
    let from = c.args.from.now in
    let t = c.loop-index-test.true in
    let n = c.exchanges-index-end.ensures.count in
    let named = c.exchange_name-name.ensures.value ∙ ap (exchange_name from) c.of.ensures in
    let known = sym (c.has_exchange.ensures ∙ ap (λ (p : Plan). has_exchange p c.exchange_name-name.result.now) c.plan.ensures) in
    elim c.if-not-has_exchange.branch [
      | then-not-has_exchange+in_ok-taken w ↦ exchange_added c.args.builder.now from c.loop-index.builder _ c.loop-index.index c.exchanges-index-end.ensures.rules (omega arith) c.loop-index.invariant named c.requires.rules (known ∙ w.if-not-has_exchange.true) _ (w.builder-is ∙ taken_next _ _ _ _ _ w.in_ok-taken.ensures.ok w.exchange.ensures)
      | else-not-has_exchange w ↦ exchange_passed c.args.builder.now from c.loop-index.builder _ c.loop-index.index c.exchanges-index-end.ensures.rules (omega arith) c.loop-index.invariant named (known ∙ w.if-not-has_exchange.false) _ w.builder-is
    ]

pub returns-clause-added : goal.returns-clause-added
returns-clause-added g c =
    let t = c.loop-index-test.false in
    let a = c.loop-index.auto.index-end in
    let n = c.exchanges-index-end.ensures.count in
    c.loop-index.invariant ∙ all_exchanges c.args.builder.now c.args.from.now c.loop-index.index (omega arith)
