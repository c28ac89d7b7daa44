use Rattle.tx_risk.proofs.Common.{◌≡◌, ◌+◌, refl, subst, sym, ap, ◌∙◌, both_ways, Cut, Ways, Left, IsLeft, gone, left_net, AreWaysFrom, ways_in, Adds, AreCutsBefore}
use Rattle.tx_risk.specs.Outages.{IsCutAs}
use Rattle.tx_risk.proofs.AddedCuts.{none_cut, cut_as, graded_once, before_skip, before_more, asked_origin, asked_reached}
use Rattle.tx_risk.proofs.cutting.add_cut.Goals as goal

pub returns-in_default : goal.returns-in_default
returns-in_default g c = λ legs all first b.
    let l = c.args.left.now in
    let o = c.args.outage.now in
    let x = c.args.exchange in
    let w = ways_in c.args.kept.now x in
    let none = ap (λ (w : Ways). w.dead_end) (sym c.ways_at-ways.ensures) ∙ c.in_default.is in
    before_skip l o legs first c.args.cuts.now.items x b (λ steps a k. none_cut (left_net l) legs x w steps
    (all x (asked_reached l o x a)) none k)

pub returns-then-not-is_asked : goal.returns-then-not-is_asked
returns-then-not-is_asked g c = λ legs all first b.
    before_skip c.args.left.now c.args.outage.now legs first c.args.cuts.now.items c.args.exchange b
    (λ steps a k. both_ways _ (sym c.is_asked.ensures ∙ c.if-not-is_asked.true) a)

pub returns : goal.returns
returns g c = λ legs all first b.
    let l = c.args.left.now in
    let o = c.args.outage.now in
    let n = left_net l in
    let x = c.args.exchange in
    let ways = c.ways_at-ways.result in
    let asked = sym c.is_asked.ensures ∙ c.if-not-is_asked.false in
    let cut : Cut = record {
      code = c.left.inside.code;
      start = x;
      end = ways.end;
      first = ways.first;
      steps = c.in-Some.steps;
      stray = ways.home;
    } in
    let code : c.left.inside.code ≡ l.code = ap (λ (m : Left). m.code) c.left.view_is in
    let is : IsCutAs n l.code legs cut = subst (λ k. IsCutAs n l.code legs (record {
      code = k;
      start = x;
      end = ways.end;
      first = ways.first;
      steps = c.in-Some.steps;
      stray = ways.home;
    })) (sym code) (cut_as n legs l.code x c.in-Some.steps ways
    (subst (AreWaysFrom n legs x) (sym c.ways_at-ways.ensures) (all x (asked_reached l o x asked)))
    c.in-Some.is (λ steps goes. graded_once l.plan (gone l) l.code x steps c.requires.grade
    (subst IsLeft c.left.view_is c.left.invariant).code (asked_origin l.plan o l.code x asked) goes)) in
    subst (Adds (AreCutsBefore l o legs (x + 1)) first) (sym c.in_ok-push.ensures.items)
    (before_more l o legs first c.args.cuts.now.items x cut b refl is asked)
