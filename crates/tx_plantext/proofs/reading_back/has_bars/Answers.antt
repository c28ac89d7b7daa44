use Rattle.tx_plantext.proofs.Common.{◌≡◌, ◌∙◌, true, sym, arith, Pair, is_barred}
use Rattle.tx_plantext.proofs.SamePlans.{bar_too, of_all}
use Rattle.tx_plantext.proofs.reading_back.has_bars.Goals as goal

pub loop-index-preserved : goal.loop-index-preserved
loop-index-preserved g c =
    bar_too c.args.plan.now c.args.other.now.bars c.loop-index.index _ c.in-Some.ensures (sym c.is_barred.ensures ∙ c.if-not-is_barred.false) c.loop-index.invariant

pub returns : goal.returns
returns g c = λ _.
    of_all (λ (b : Pair). is_barred c.args.plan.now b.exchange b.code ≡ true) c.args.other.now.bars c.loop-index.index
    (let t = c.loop-index-test.false in let e = c.bars-index-end.ensures.count in omega arith) c.loop-index.invariant
