use Rattle.tx_circuits.proofs.Common.{◌≡◌, ◌∙◌, List, sym, subst, arith, Slot, Row, IsAppended}
use Rattle.tx_circuits.proofs.AllFree.{none_made, one_more, each_all}
use Rattle.tx_circuits.proofs.Indexes.{each_end}
use Rattle.tx_circuits.proofs.Kept.{appended}
use Rattle.tx_circuits.proofs.groups.append_group.Goals as goal

pub loop-index-init : goal.loop-index-init
loop-index-init g c =
    let r = c.in_ok-reserve.ensures in
    let room = r.ok in
    let len = r.len in
    let start = c.len-start.ensures in
    record { made = none_made c.args.slots.now.items _ r.items; long = omega arith; room = omega arith }

pub loop-index-preserved : goal.loop-index-preserved
loop-index-preserved g c =
    let i = c.loop-index.invariant in
    let p = c.push_reserved.ensures in
    let long = i.long in
    let room = i.room in
    let len = p.len in
    let capacity = p.capacity in
    record {
      made = one_more c.args.slots.now.items c.loop-index.slots.items _ c.args.count c.loop-index.index c.among.result i.made c.among.ensures p.items;
      long = omega arith;
      room = omega arith;
    }

pub returns-clause-ok : goal.returns-clause-ok
returns-clause-ok g c =
    let slots = c.args.slots.now.items in
    let n = c.args.count in
    let row : Row = record { head = c.args.head; start = c.len-start.result; count = n; lists = record { first = c.of_all-all.result; other = c.of_all-all.result } } in
    let done = c.loop-index-test.false in
    let end = c.loop-index.auto.index-end in
    let all : c.loop-index.index ≡ n = omega arith in
    subst (λ (l : List Slot). IsAppended slots l c.args.head n row) (sym (c.loop-index.invariant.made ∙ each_all slots n c.loop-index.index all))
    (appended slots row (c.len-start.ensures ∙ c.args.slots.now.ok.0) c.requires (each_end _ c.of_all-all.ensures c.of_all-all.ensures))
