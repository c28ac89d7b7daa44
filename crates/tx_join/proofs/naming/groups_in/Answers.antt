use Rattle.tx_join.proofs.Common.{◌≡◌, ◌+◌, ◌∙◌, ◌++◌, ◌∷◌, [], length, map, sym, ap, arith, range_with_len, group_in}
use Rattle.std.proofs.lemmas.List.FromFn.{map-range_with_len_more, length-map-range_with_len}
use Rattle.tx_join.proofs.naming.groups_in.Goals as goal

pub push_reserved-requires : goal.push_reserved-requires
push_reserved-requires g c =
    let long = ap length c.loop-index.invariant.so_far in
    let same = length-map-range_with_len (group_in c.args.plan.now c.args.from.now) 0 c.loop-index.index in
    let r = c.loop-index.invariant.room in
    let t = c.loop-index-test.true in
    let n = c.groups-index-end.ensures.count in
    omega arith

pub loop-index-preserved : goal.loop-index-preserved
loop-index-preserved g c =
    let f = group_in c.args.plan.now c.args.from.now in
    let i = c.loop-index.invariant in
    let k = c.push_reserved.ensures in
    let e : 0 + c.loop-index.index ≡ c.loop-index.index = omega arith in
    let id : c.group_in.result ≡ f c.loop-index.index = c.group_in.ensures ∙ ap f c.of.ensures in
    record {
      so_far = k.items ∙ (λ j. i.so_far j ++ id j ∷ []) ∙ sym (map-range_with_len_more f 0 c.loop-index.index c.loop-index.index e);
      room = let r = i.room in let q = k.capacity in omega arith;
    }

pub returns : goal.returns
returns g c =
    let all : c.loop-index.index ≡ length c.args.from.now.groups = let t = c.loop-index-test.false in let a = c.loop-index.auto.index-end in let e = c.groups-index-end.ensures.count in omega arith in
    c.loop-index.invariant.so_far ∙ ap (λ n. map (group_in c.args.plan.now c.args.from.now) (range_with_len 0 n)) all
