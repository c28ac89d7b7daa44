use Rattle.std.proofs.Common.{◌≡◌, ◌∙◌, ◌==◌, length, drop, ap, sym, ℕ, arith}
use Rattle.tx_lint.proofs.Common.{◌||◌, slice_get, list_any, get_or_from_slice_get, Route, entry_at, is_marked, no_none}
use Rattle.tx_rank.proofs.Marking.{put_back}
use Rattle.tx_lint.proofs.Marked.{route_there, within_marks, listed_more}
use Rattle.tx_lint.proofs.marks.listed.Goals as goal

pub mark_all-requires : goal.mark_all-requires
mark_all-requires g c =
    let p = c.args.plan.now in
    let there = route_there p c.groups.ensures.rules c.loop-index.index _ c.in-Some.ensures.value in
    within_marks p c.groups.ensures.rules c.loop-index.index there.0 there.1 c.deref_mut.result.now c.list.result.now
    (ap length c.deref_mut.ensures.value ∙ c.loop-index.invariant.long) (c.list.ensures.value ∙ there.2)

pub unreachable-requires : goal.unreachable-requires
unreachable-requires g c =
    let p = c.args.plan.now in
    let t = c.loop-index-test.true in
    let n = c.routes-index-end.ensures.count in
    let e = entry_at p.routes c.loop-index.index (omega arith) in
    no_none (λ (r : Route). (r.exchange, r.code)) (slice_get p.routes c.loop-index.index) e.0 e.1 (sym c.in-None.is ∙ c.route_at.ensures.value)

pub loop-index-preserved : goal.loop-index-preserved
loop-index-preserved g c =
    let p = c.args.plan.now in
    let marks = c.loop-index.marks in
    let new = c.mark_all.new.marks in
    let there = route_there p c.groups.ensures.rules c.loop-index.index _ c.in-Some.ensures.value in
    let long : length new ≡ length marks.items = c.mark_all.ensures.long ∙ ap length c.deref_mut.ensures.value in
    let k = marks.ok.0 in
    let fits : length new ≡ marks.len = omega arith in
    let t = c.loop-index-test.true in
    let n = c.routes-index-end.ensures.count in
    rw (put_back marks.len new (drop (length new) marks.items) fits) (record {
      long = long ∙ c.loop-index.invariant.long;
      so_far = listed_more marks.items new p.routes c.loop-index.index there.0 (omega arith)
          (sym (get_or_from_slice_get p.routes c.loop-index.index there.0 there.0 there.1)) c.loop-index.invariant.so_far
          (λ x. c.mark_all.ensures.marks x
          ∙ (λ j. is_marked (c.deref_mut.ensures.value j) x || list_any (λ (h : ℕ). h == x) ((c.list.ensures.value ∙ there.2) j)));
    })
