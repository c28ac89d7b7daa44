use Rattle.tx_text.proofs.Common.{◌≡◌, ◌<◌, ◌-◌, suc, Ok, arith, rules, Calls, source_calls}
use Rattle.tx_text.proofs.CallCounts.{went_none, went_same, went_more, calls_more}
use Rattle.tx_text.proofs.ReadingOn.{moves-nil, moves_on}
use Rattle.tx_text.proofs.whole_text.read_whole_text.Goals as goal

pub loop-left-init : goal.loop-left-init
loop-left-init g c = record {
  moves = rw c.new-text.ensures.items (moves-nil (g.R.Source.rest c.args.source.now));
  went = went_none g.R.Source.called 4294967295 c.args.source.now;
}

pub loop-left-preserved : goal.loop-left-preserved
loop-left-preserved g c =
    let called = g.R.Source.called in
    let left = c.loop-left.left in
    let some = c.loop-left-test.true in
    let one_less : suc (left - 1) ≡ left = omega arith in
    let pos : 0 < c.in-Ok.n = omega (arith, c.in-Ok.n-test) in
    let call : called 4096 (Ok c.in-Ok.n) c.loop-left.source c.read.new.self = search rules in
    record {
      moves = rw c.in_ok-add-in-Ok.ensures (moves_on _ _ _ _ _ c.loop-left.invariant.moves c.in-Ok.ensures.bytes);
      went = went_more called source_calls (left - 1) _ _ _ (went_same called source_calls left (suc (left - 1)) _ _ one_less c.loop-left.invariant.went) (c.in-Ok.n, pos, call);
    }

pub returns-in-Ok-eq0-clause-calls : goal.returns-in-Ok-eq0-clause-calls
returns-in-Ok-eq0-clause-calls g c =
    let called = g.R.Source.called in
    let left = c.loop-left.left in
    let some = c.loop-left-test.true in
    let one_less : suc (left - 1) ≡ left = omega arith in
    let call : Calls called c.loop-left.source c.read.new.self = search rules in
    calls_more called source_calls (left - 1) _ _ _ (went_same called source_calls left (suc (left - 1)) _ _ one_less c.loop-left.invariant.went) call

pub returns-in_err-add-in-Ok-clause-calls : goal.returns-in_err-add-in-Ok-clause-calls
returns-in_err-add-in-Ok-clause-calls g c =
    let called = g.R.Source.called in
    let left = c.loop-left.left in
    let some = c.loop-left-test.true in
    let one_less : suc (left - 1) ≡ left = omega arith in
    let call : Calls called c.loop-left.source c.read.new.self = search rules in
    calls_more called source_calls (left - 1) _ _ _ (went_same called source_calls left (suc (left - 1)) _ _ one_less c.loop-left.invariant.went) call

pub returns-in-Err-clause-calls : goal.returns-in-Err-clause-calls
returns-in-Err-clause-calls g c =
    let called = g.R.Source.called in
    let left = c.loop-left.left in
    let some = c.loop-left-test.true in
    let one_less : suc (left - 1) ≡ left = omega arith in
    let call : Calls called c.loop-left.source c.read.new.self = search rules in
    calls_more called source_calls (left - 1) _ _ _ (went_same called source_calls left (suc (left - 1)) _ _ one_less c.loop-left.invariant.went) call
