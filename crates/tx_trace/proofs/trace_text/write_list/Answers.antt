use Rattle.tx_trace.proofs.Common.{ℕ, arith, enumerate_from, puts_more, puts_all, place_line, rank_told}
use Rattle.std.proofs.lemmas.List.FromFn.{length-enumerate_from}
use Rattle.tx_trace.proofs.Texts.{numbered}
use Rattle.tx_trace.proofs.trace_text.write_list.Goals as goal

pub loop-i-preserved : goal.loop-i-preserved
loop-i-preserved g c =
    let t = c.args.trace.now in
    let xs = c.list-list.result.now in
    let long = length-enumerate_from 1 xs in
    let low = c.loop-i-test.true in
    puts_more (λ (e : ℕ × ℕ). place_line c.args.plan.now (rank_told t.ranks t.code) c.args.exchange e.0 e.1) (enumerate_from 1 xs) {i = c.loop-i.i} (omega arith) (numbered xs c.loop-i.i c.index-list-i.result low c.index-list-i.is) c.loop-i.invariant c.write_place.ensures

pub returns : goal.returns
returns g c =
    let t = c.args.trace.now in
    let xs = c.list-list.result.now in
    let long = length-enumerate_from 1 xs in
    let past = c.loop-i-test.false in
    rw (← c.list-list.ensures.value)
    (puts_all (λ (e : ℕ × ℕ). place_line c.args.plan.now (rank_told t.ranks t.code) c.args.exchange e.0 e.1) (enumerate_from 1 xs) {i = c.loop-i.i} (omega arith) c.loop-i.invariant)
