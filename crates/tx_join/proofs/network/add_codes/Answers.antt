use Rattle.tx_join.proofs.Common.{◌∙◌, ap, sym, refl, arith, Plan, exchange_name, figures_of, home_of, has_code}
use Rattle.tx_join.proofs.NextDeclared.{no_code, all_codes, is_taken, taken_next}
use Rattle.tx_join.proofs.StepsDeclared.{code_fits, code_added, code_passed}
use Rattle.tx_join.proofs.network.add_codes.Goals as goal
use Rattle.tx_join.proofs.network.add_codes.Goals.{then-not-has_code+in_ok-taken, else-not-has_code}

pub loop-index-init : goal.loop-index-init
loop-index-init g c = no_code c.args.builder.now c.args.from.now

pub taken-requires : goal.taken-requires
taken-requires g c =
    let from = c.args.from.now in
    let t = c.loop-index-test.true in
    let n = c.codes-index-end.ensures.count in
    let named = c.code_figures-figures.ensures.value ∙ ap (figures_of from) c.of-code.ensures in
    let home = c.exchange_name-home.ensures.value ∙ ap (exchange_name from) (c.home.ensures ∙ ap (home_of from) c.of-code.ensures) in
    let known = sym (c.has_code.ensures ∙ ap (λ (p : Plan). has_code p c.code_figures-figures.result.now) c.plan.ensures) in
    is_taken _ _ _ _ c.code.result (code_fits c.args.builder.now from c.loop-index.builder _ _ c.loop-index.index c.codes-index-end.ensures.rules (omega arith) c.loop-index.invariant named home c.requires.rules c.requires.homes (known ∙ c.if-not-has_code.true)) c.code.ensures

pub loop-index-preserved : goal.loop-index-preserved
loop-index-preserved g c =
    let from = c.args.from.now in
    let t = c.loop-index-test.true in
    let n = c.codes-index-end.ensures.count in
    let named = c.code_figures-figures.ensures.value ∙ ap (figures_of from) c.of-code.ensures in
    let known = sym (c.has_code.ensures ∙ ap (λ (p : Plan). has_code p c.code_figures-figures.result.now) c.plan.ensures) in
    elim c.if-not-has_code.branch [
      | then-not-has_code+in_ok-taken w ↦ (let home = w.exchange_name-home.ensures.value ∙ ap (exchange_name from) (w.home.ensures ∙ ap (home_of from) c.of-code.ensures) in
          code_added c.args.builder.now from c.loop-index.builder _ _ c.loop-index.index c.codes-index-end.ensures.rules (omega arith) c.loop-index.invariant named home c.requires.rules c.requires.homes (known ∙ w.if-not-has_code.true) _ (w.builder-is ∙ taken_next _ _ _ _ _ w.in_ok-taken.ensures.ok w.code.ensures))
      | else-not-has_code w ↦ code_passed c.args.builder.now from c.loop-index.builder _ (exchange_name from (home_of from c.loop-index.index)) c.loop-index.index c.codes-index-end.ensures.rules (omega arith) c.loop-index.invariant named refl (known ∙ w.if-not-has_code.false) _ w.builder-is
    ]

pub returns-clause-added : goal.returns-clause-added
returns-clause-added g c =
    let t = c.loop-index-test.false in
    let a = c.loop-index.auto.index-end in
    let n = c.codes-index-end.ensures.count in
    c.loop-index.invariant ∙ all_codes c.args.builder.now c.args.from.now c.loop-index.index (omega arith)
