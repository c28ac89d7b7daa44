use Rattle.tx_down.proofs.Common.{◌∙◌, ap, arith, exits_with, taken_last, its_exchanges}
use Rattle.tx_plan.specs.Plan.{exchange_name, figures_of, home_of}
use Rattle.tx_down.proofs.Taking.{code_fits, code_added, out_of_memory}
use Rattle.tx_down.proofs.network.add_codes.Goals as goal

pub returns-in_err-code-clause-memory : goal.returns-in_err-code-clause-memory
returns-in_err-code-clause-memory g c =
    let from = c.args.from.now in
    let t = c.loop-index-test.true in
    let n = c.codes-index-end.ensures.count in
    let named = c.code_figures.ensures.value ∙ ap (figures_of from) c.of-code.ensures in
    let home = c.exchange_name-home.ensures.value ∙ ap (exchange_name from) (c.home.ensures ∙ ap (home_of from) c.of-code.ensures) in
    rw (exits_with c.from_residual.result c.in_err-code.field-0.0 c.from_residual.ensures.1)
    (out_of_memory _ _ (code_fits from c.codes-index-end.ensures.rules c.loop-index.builder _ _
    c.loop-index.index (omega arith) c.loop-index.invariant named home) c.in_err-code.ensures.1)

pub loop-index-preserved : goal.loop-index-preserved
loop-index-preserved g c =
    let from = c.args.from.now in
    let t = c.loop-index-test.true in
    let n = c.codes-index-end.ensures.count in
    let named = c.code_figures.ensures.value ∙ ap (figures_of from) c.of-code.ensures in
    let home = c.exchange_name-home.ensures.value ∙ ap (exchange_name from) (c.home.ensures ∙ ap (home_of from) c.of-code.ensures) in
    c.in_ok-code.ensures.1 ∙ code_added from c.codes-index-end.ensures.rules c.loop-index.builder _ _
    c.loop-index.index (omega arith) c.loop-index.invariant named home

pub returns-clause-added : goal.returns-clause-added
returns-clause-added g c =
    let t = c.loop-index-test.false in
    let a = c.loop-index.auto.index-end in
    let n = c.codes-index-end.ensures.count in
    c.loop-index.invariant
    ∙ (λ j. record (its_exchanges c.args.from.now) { codes = taken_last c.args.from.now.codes c.loop-index.index (omega arith) j })
