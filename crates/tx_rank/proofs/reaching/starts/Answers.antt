use Rattle.tx_rank.proofs.Common.{◌∙◌, ℕ, ap, arith, is_origin_for}
use Rattle.tx_rank.proofs.Nets.{is_net}
use Rattle.tx_rank.proofs.Marking.{origins_next, origins_seen}
use Rattle.tx_rank.proofs.reaching.starts.Goals as goal

pub invariant_of-routes : goal.invariant_of-routes
invariant_of-routes g c = record { net = is_net c.args.plan.now c.exchanges.ensures.rules c.args.code c.requires.code; right = c.requires.origins }

pub loop-index-preserved : goal.loop-index-preserved
loop-index-preserved g c =
    let p = c.args.plan.now in
    let i = c.loop-index.invariant in
    let k = c.push_reserved.ensures in
    record {
      so_far = origins_next p c.args.code c.loop-index.index c.loop-index.marks.items _ c.is_origin.result i.so_far k.items (c.is_origin.ensures ∙ ap (λ (x : ℕ). is_origin_for p x c.args.code) c.of.ensures);
      room = let r = i.room in let q = k.capacity in omega arith;
    }

pub returns : goal.returns
returns g c =
    let e = c.exchanges-index-end.ensures.count in
    let t = c.loop-index-test.false in
    let a = c.loop-index.auto.index-end in
    origins_seen c.args.plan.now c.args.code c.loop-index.index c.loop-index.marks.items c.exchanges.ensures.rules c.requires.code (omega arith) c.loop-index.invariant.so_far
