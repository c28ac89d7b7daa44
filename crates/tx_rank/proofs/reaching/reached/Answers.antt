use Rattle.tx_rank.proofs.Common.{◌≡◌, ◌∙◌, false, length, drop, ap, sym, arith, net_of, is_marked}
use Rattle.tx_rank.proofs.Marking.{left_less, put_back, marking_none, marking_more, marking_all}
use Rattle.tx_rank.proofs.reaching.reached.Goals as goal

pub next-requires-clause-few : goal.next-requires-clause-few
next-requires-clause-few g c =
    let e = ap length c.deref.ensures.value in
    let l = c.loop-exchange.invariant.seen.long in
    let f = c.exchanges.ensures.rules.few_exchanges in
    omega arith

pub next-requires-clause-long : goal.next-requires-clause-long
next-requires-clause-long g c = rw (c.deref.ensures.value, c.deref-in-loop-exchange.ensures.value) (c.loop-exchange.invariant.seen.long ∙ sym c.loop-exchange.invariant.long)

pub open-requires : goal.open-requires
open-requires g c =
    record {
      code = c.requires.code;
      seen = rw c.deref_mut.ensures.value c.loop-exchange.invariant.seen;
      here = rw c.deref_mut.ensures.value (rw c.deref.ensures.value at c.in-Some.ensures.some.1);
    }

pub loop-exchange-init : goal.loop-exchange-init
loop-exchange-init g c = marking_none (net_of c.args.plan.now c.args.code) c.exchanges.result c.in_ok-seen.seen.items c.in_ok-opened.opened.items c.in_ok-seen.ensures (c.in_ok-opened.ensures.items_if_clones_equal (λ y e. e)) c.exchanges.ensures.count

pub loop-exchange-smaller : goal.loop-exchange-smaller
loop-exchange-smaller g c =
    let some = c.in-Some.ensures.some in
    let e = ap length c.deref.ensures.value in
    let l = c.loop-exchange.invariant.seen.long in
    let m = c.loop-exchange.invariant.long in
    let free : is_marked c.loop-exchange.opened.items c.in-Some.exchange ≡ false = rw c.deref-in-loop-exchange.ensures.value at some.2 in
    rw c.index.ensures (left_less c.loop-exchange.opened.items c.in-Some.exchange (omega (arith, some.0)) free)

pub loop-exchange-preserved : goal.loop-exchange-preserved
loop-exchange-preserved g c =
    let marks = c.loop-exchange.seen in
    let l = c.loop-exchange.invariant.seen.long in
    let s = c.open.ensures.seen.long in
    let k = marks.ok.0 in
    let fits : length c.open.new.seen ≡ marks.len = omega arith in
    rw (put_back marks.len c.open.new.seen (drop (length c.open.new.seen) marks.items) fits, c.index.ensures)
    (marking_more (net_of c.args.plan.now c.args.code) marks.items c.open.new.seen c.loop-exchange.opened.items c.in-Some.exchange c.loop-exchange.invariant c.open.ensures.seen (rw c.deref_mut.ensures.value at c.open.ensures.stays) c.open.ensures.leads)

pub returns : goal.returns
returns g c =
    marking_all (net_of c.args.plan.now c.args.code) c.loop-exchange.seen.items c.loop-exchange.opened.items c.loop-exchange.invariant (rw (c.deref.ensures.value, c.deref-in-loop-exchange.ensures.value) at c.in_default.ensures.none)
