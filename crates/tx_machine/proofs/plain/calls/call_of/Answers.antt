use Rattle.std.proofs.Common.{◌∙◌, ◌==◌, length, sym, ap, arith, ne_eqb}
use Rattle.tx_machine.proofs.Common.{Call, call_seen, falls}
use Rattle.tx_machine.proofs.Finding.{passed, none_left}
use Rattle.tx_machine.proofs.plain.calls.call_of.Goals as goal

pub loop-at-preserved : goal.loop-at-preserved
loop-at-preserved g c =
    let x = c.index-calls-at.result in
    (omega arith, c.loop-at.invariant.1 ∙ passed (λ (k : Call). k.number == c.args.number) call_seen c.args.calls.now c.loop-at.at x c.loop-at-test.true c.index-calls-at.is (ne_eqb x.number c.args.number (λ e. c.if-calls-at.false (ap (λ (k : Call). k.number) (ap call_seen (sym c.index-calls-at.is)) ∙ e))))

pub loop-at-smaller : goal.loop-at-smaller
loop-at-smaller g c = falls (length c.args.calls.now) c.loop-at.at c.loop-at-test.true

pub returns : goal.returns
returns g c = c.loop-at.invariant.1 ∙ none_left (λ (k : Call). k.number == c.args.number) call_seen c.args.calls.now c.loop-at.at c.loop-at-test.false
