use Rattle.tx_machine.proofs.Common.{◌∙◌, not, ◌&&◌, ◌==◌, length, sym, arith, Call, seizes_from, call_seen, falls}
use Rattle.tx_machine.proofs.Finding.{passed, none_left}
use Rattle.tx_machine.proofs.plain.calls.rival_of.Goals as goal

pub loop-at-preserved : goal.loop-at-preserved
loop-at-preserved g c =
    let x = c.index-calls-at.result in
    (omega arith, c.loop-at.invariant.1 ∙ passed (λ (d : Call). not (d.number == c.args.number) && seizes_from c.args.plan.now d c.args.circuit.now c.args.exchange) call_seen c.args.calls.now c.loop-at.at x c.loop-at-test.true c.index-calls-at.is (sym c.is_rival.ensures ∙ c.if-is_rival.false))

pub loop-at-smaller : goal.loop-at-smaller
loop-at-smaller g c = falls (length c.args.calls.now) c.loop-at.at c.loop-at-test.true

pub returns : goal.returns
returns g c = c.loop-at.invariant.1 ∙ none_left (λ (d : Call). not (d.number == c.args.number) && seizes_from c.args.plan.now d c.args.circuit.now c.args.exchange) call_seen c.args.calls.now c.loop-at.at c.loop-at-test.false
