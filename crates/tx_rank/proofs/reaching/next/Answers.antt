use Rattle.tx_rank.proofs.Common.{sym, ◌∙◌, arith, is_marked}
use Rattle.tx_rank.proofs.Marking.{at_within, waits, none_more}
use Rattle.tx_rank.proofs.reaching.next.Goals as goal

pub loop-index-preserved : goal.loop-index-preserved
loop-index-preserved c = none_more c.args.seen.now c.args.opened.now c.loop-index.index c.of-exchange.result c.of-exchange.ensures (sym c.is_waiting.ensures ∙ c.if-is_waiting.false) c.loop-index.invariant

pub returns-then-is_waiting-clause-some : goal.returns-then-is_waiting-clause-some
returns-then-is_waiting-clause-some c =
    let w = waits (is_marked c.args.seen.now c.of-exchange.result) (is_marked c.args.opened.now c.of-exchange.result) (sym c.is_waiting.ensures ∙ c.if-is_waiting.true) in
    let e = c.of-exchange.ensures in
    let t = c.loop-index-test.true in
    (omega arith, w.0, w.1)

pub returns-clause-none : goal.returns-clause-none
returns-clause-none c = λ x s.
    let w = at_within c.args.seen.now x s in
    let t = c.loop-index-test.false in
    c.loop-index.invariant x (omega arith) s
