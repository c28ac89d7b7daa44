use Rattle.tx_join.proofs.Common.{◌≡◌, ◌++◌, ◌∷◌, [], true, false, nat_lt, ◌∙◌, ap, sym, subst, arith, append-nil, slice_get, filter, Pair, entry_at, has_bar}
use Rattle.tx_plan.proofs.Copied.{bar_got, no_none}
use Rattle.tx_join.proofs.NextTaken.{bar_next, bar_left, bar_free, bars_taken}
use Rattle.tx_join.proofs.over.add_bars.Goals as goal
use Rattle.tx_join.proofs.over.add_bars.Goals.{then-takes+in_ok-add_bar-in-Some, else-takes}

pub loop-index-init : goal.loop-index-init
loop-index-init g c = sym (append-nil _)

pub add_bar-requires : goal.add_bar-requires
add_bar-requires g c =
    let from = c.args.from.now in
    let at = bar_got from.bars c.loop-index.index _ c.in-Some.ensures in
    subst (λ (q : Pair). nat_lt q.code c.args.codes ≡ true → has_bar c.loop-index.bars q ≡ false) (sym c.pair_in.ensures)
    (bar_free c.args.network.now c.args.own.now from c.args.whole c.args.codes c.args.bars.now c.loop-index.bars c.loop-index.index _ at c.loop-index.invariant c.requires (sym c.takes.ensures ∙ c.if-takes.true))

pub unreachable-requires : goal.unreachable-requires
unreachable-requires g c =
    let p = c.args.from.now in
    let t = c.loop-index-test.true in
    let n = c.bars-index-end.ensures.count in
    let e = entry_at p.bars c.loop-index.index (omega arith) in
    no_none (λ (b : Pair). (b.exchange, b.code)) (slice_get p.bars c.loop-index.index) e.0 e.1 (sym c.in-None.is ∙ c.bar_at.ensures)

pub loop-index-preserved : goal.loop-index-preserved
loop-index-preserved g c =
    let from = c.args.from.now in
    let at = bar_got from.bars c.loop-index.index _ c.in-Some.ensures in
    elim c.if-takes.branch [
      | then-takes+in_ok-add_bar-in-Some w ↦ bar_next c.args.network.now c.args.own.now from c.args.whole c.args.codes c.args.bars.now c.loop-index.bars c.loop-index.index _ at c.loop-index.invariant _ (sym c.takes.ensures ∙ w.if-takes.true)
          (w.bars-is ∙ w.in_ok-add_bar-in-Some.ensures ∙ ap (λ (q : Pair). c.loop-index.bars ++ filter (λ (b : Pair). nat_lt b.code c.args.codes) (q ∷ [])) w.pair_in.ensures)
      | else-takes w ↦ bar_left c.args.network.now c.args.own.now from c.args.whole c.args.codes c.args.bars.now c.loop-index.bars c.loop-index.index _ at c.loop-index.invariant _ (sym c.takes.ensures ∙ w.if-takes.false) w.bars-is
    ]

pub returns : goal.returns
returns g c =
    let t = c.loop-index-test.false in
    let a = c.loop-index.auto.index-end in
    let n = c.bars-index-end.ensures.count in
    bars_taken c.args.network.now c.args.own.now c.args.from.now c.args.whole c.args.codes c.args.bars.now c.loop-index.bars c.loop-index.index (omega arith) c.loop-index.invariant
