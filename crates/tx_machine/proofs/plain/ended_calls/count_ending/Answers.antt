use Rattle.tx_machine.proofs.Common.{◌∙◌, sym, length, map, filter, call_seen, ends_by, falls}
use Rattle.tx_machine.proofs.Finding.{counted, skipped, all_counted}
use Rattle.tx_machine.proofs.plain.ended_calls.count_ending.Goals as goal
use Rattle.tx_machine.proofs.plain.ended_calls.count_ending.Goals.{then-is_ended, else-is_ended}

pub bounds-calls-at : goal.bounds-calls-at
bounds-calls-at g c = c.loop-at-test.true

pub loop-at-smaller : goal.loop-at-smaller
loop-at-smaller g c = falls (length c.args.calls.now) c.loop-at.at c.loop-at-test.true

pub loop-at-preserved : goal.loop-at-preserved
loop-at-preserved g c =
    let calls = c.args.calls.now in
    let ends = ends_by c.args.ends.now in
    let l = c.loop-at in
    let x = c.index-calls-at.result in
    let total = length (filter ends (map call_seen calls)) in
    elim c.if-is_ended.branch [
      | then-is_ended w ↦ counted ends call_seen calls l.at x c.loop-at-test.true c.index-calls-at.is l.count c.if-is_ended.count total l.invariant.1 l.invariant.2 (sym c.is_ended.ensures ∙ w.if-is_ended.true) w.count-is
      | else-is_ended w ↦ skipped ends call_seen calls l.at x c.loop-at-test.true c.index-calls-at.is l.count c.if-is_ended.count total l.invariant.1 l.invariant.2 (sym c.is_ended.ensures ∙ w.if-is_ended.false) w.count-is
    ]

pub returns : goal.returns
returns g c =
    let ends = ends_by c.args.ends.now in
    let calls = c.args.calls.now in
    all_counted ends call_seen calls c.loop-at.at c.loop-at.count (length (filter ends (map call_seen calls))) c.loop-at-test.false c.loop-at.invariant.2
