use Rattle.tx_rank.proofs.Common.{◌≡◌, ◌+◌, ◌∙◌, Bool, List, sym, ap, subst, length, arith, is_origin}
use Rattle.tx_rank.proofs.Origins.{AreOriginsBelow, origins_next, origins_all}
use Rattle.tx_rank.proofs.code_routes.origins_of.Goals as goal

pub loop-index-preserved : goal.loop-index-preserved
loop-index-preserved g c =
    let p = c.args.plan.now in
    let i = c.loop-index.invariant in
    let k = c.push_reserved.ensures in
    record {
      so_far = subst (λ (l : List Bool). AreOriginsBelow p (c.loop-index.index + 1) l) (sym k.items) (origins_next p c.loop-index.index c.loop-index.origins.items c.is_origin.result i.so_far (c.is_origin.ensures ∙ ap (is_origin p) c.of.ensures));
      room = let r = i.room in let q = k.capacity in omega arith;
    }

pub returns : goal.returns
returns g c =
    let all : c.loop-index.index ≡ length c.args.plan.now.exchanges = let t = c.loop-index-test.false in let a = c.loop-index.auto.index-end in let e = c.exchanges-index-end.ensures.count in omega arith in
    origins_all c.args.plan.now c.loop-index.index c.loop-index.origins.items c.loop-index.invariant.so_far all
