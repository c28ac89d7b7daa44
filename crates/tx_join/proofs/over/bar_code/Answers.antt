use Rattle.tx_join.proofs.Common.{◌≡◌, ℕ, ◌==◌, ◌&&◌, false, [], ◌∷◌, ◌++◌, ◌∙◌, sym, ap, subst, arith, append-nil, list_any, not-true, not-false, Pair, home_of}
use Rattle.tx_join.proofs.Splits.{all_barred, home_passed, exchange_free, exchange_barred}
use Rattle.tx_join.proofs.over.bar_code.Goals as goal
use Rattle.tx_join.proofs.over.bar_code.Goals.{then-ne+in_ok-add, else-ne}

pub loop-index-init : goal.loop-index-init
loop-index-init g c = sym (append-nil _)

pub add-requires : goal.add-requires
add-requires g c =
    let j = c.args.network.now in
    let t = c.loop-index-test.true in
    let n = c.exchanges-index-end.ensures.count in
    let same : (c.home.result == c.of-exchange.result) ≡ (home_of j c.args.code == c.loop-index.index) = λ i. c.home.ensures i == c.of-exchange.ensures i in
    subst (λ (x : ℕ). list_any (λ (b : Pair). (b.exchange == x) && (b.code == c.args.code)) c.loop-index.bars ≡ false) (sym c.of-exchange.ensures)
    (exchange_free j c.args.code c.args.bars.now c.loop-index.bars c.loop-index.index (omega arith) c.loop-index.invariant (sym same ∙ not-true _ (sym c.ne.ensures ∙ c.if-ne.true)) c.requires)

pub loop-index-preserved : goal.loop-index-preserved
loop-index-preserved g c =
    let j = c.args.network.now in
    let t = c.loop-index-test.true in
    let n = c.exchanges-index-end.ensures.count in
    let same : (c.home.result == c.of-exchange.result) ≡ (home_of j c.args.code == c.loop-index.index) = λ i. c.home.ensures i == c.of-exchange.ensures i in
    elim c.if-ne.branch [
      | then-ne+in_ok-add w ↦ exchange_barred j c.args.code c.args.bars.now c.loop-index.bars c.loop-index.index (omega arith) c.loop-index.invariant (sym same ∙ not-true _ (sym c.ne.ensures ∙ w.if-ne.true)) _
          (w.bars-is ∙ w.in_ok-add.ensures.ok ∙ ap (λ (x : ℕ). c.loop-index.bars ++ record { exchange = x; code = c.args.code } ∷ []) c.of-exchange.ensures)
      | else-ne w ↦ home_passed j c.args.code c.args.bars.now c.loop-index.bars c.loop-index.index (omega arith) c.loop-index.invariant (sym same ∙ not-false _ (sym c.ne.ensures ∙ w.if-ne.false)) _ w.bars-is
    ]

pub returns : goal.returns
returns g c =
    let t = c.loop-index-test.false in
    let a = c.loop-index.auto.index-end in
    let n = c.exchanges-index-end.ensures.count in
    all_barred c.args.network.now c.args.code c.args.bars.now c.loop-index.bars c.loop-index.index (omega arith) c.loop-index.invariant
