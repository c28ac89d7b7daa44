use Rattle.tx_risk.proofs.Common.{◌≡◌, ◌+◌, ◌∙◌, sym, ap, subst, length, arith, risk_of}
use Rattle.tx_risk.proofs.Marking.{AreMarksBelow, marks_first, marks_next, marks_all}
use Rattle.tx_risk.proofs.outages.marks_of.Goals as goal

pub loop-index-init : goal.loop-index-init
loop-index-init g c = record {
  so_far = marks_first (risk_of c.args.plan.now c.args.risks.now c.args.outage.now)
      c.in_ok-marks.marks.items c.in_ok-marks.ensures.items;
  room = let q = c.in_ok-marks.ensures.capacity in let e = c.groups.ensures.count in omega arith;
}

pub loop-index-preserved : goal.loop-index-preserved
loop-index-preserved g c =
    let risk = risk_of c.args.plan.now c.args.risks.now c.args.outage.now in
    let i = c.loop-index.invariant in
    let k = c.push_reserved.ensures in
    record {
      so_far = subst (AreMarksBelow risk (c.loop-index.index + 1)) (sym k.items)
          (marks_next risk c.loop-index.index c.loop-index.marks.items c.goes_with.result i.so_far
          (c.goes_with.ensures ∙ ap risk c.of.ensures));
      room = let r = i.room in let q = k.capacity in omega arith;
    }

pub returns : goal.returns
returns g c =
    let all : c.loop-index.index ≡ length c.args.plan.now.groups =
    let t = c.loop-index-test.false in let a = c.loop-index.auto.index-end in
    let e = c.groups-index-end.ensures.count in omega arith in
    marks_all (risk_of c.args.plan.now c.args.risks.now c.args.outage.now) c.loop-index.index
    c.loop-index.marks.items (λ h t. let l = c.requires h t in omega arith)
    c.loop-index.invariant.so_far
