use Rattle.std.proofs.Common.{◌≡◌, ◌∙◌, ◌∷◌, ◌++◌, [], Some, length, sym, ap, arith, length-append}
use Rattle.std.proofs.lemmas.Option.{slice_get-get_or}
use Rattle.tx_plan.specs.Plan.{group_named}
use Rattle.tx_plan.proofs.ListFound.{list_few}
use Rattle.tx_down.proofs.NextRoute.{group_known, group_unknown}
use Rattle.tx_down.proofs.without.list_over.Goals as goal
use Rattle.tx_down.proofs.without.list_over.Goals.{in-Some, in-None}

pub push-requires : goal.push-requires
push-requires g c =
    let few = list_few c.args.plan.now c.list-tried.ensures.rules c.args.exchange c.args.code in
    let same = ap length c.list-tried.ensures.value in
    let at = c.loop-group-test.true in
    let within = c.loop-group.invariant.few in
    omega arith

pub loop-group-preserved : goal.loop-group-preserved
loop-group-preserved g c =
    let net = c.args.network.now in
    let xs = c.list-tried.result.now in
    let i = c.loop-group.invariant in
    let within = i.few in
    let at = slice_get-get_or xs c.loop-group.group-index c.group-item.result c.loop-group-test.true ∙ ap Some (sym c.group-item.is) in
    let named = ap (group_named net) (sym c.group_name.ensures.value) ∙ sym c.group_named.ensures in
    elim c.match-group_named.branch [
      | in-Some w ↦ (
          let new : c.match-group_named.list.items ≡ c.loop-group.list.items ++ w.in-Some.known ∷ [] =
          let a = w.list-is in let b = w.push.ensures.items in cc in
          record {
            few = let l = ap length new in
                let a = length-append c.loop-group.list.items (w.in-Some.known ∷ []) in
                omega arith;
            over = group_known net c.args.plan.now xs c.loop-group.list.items c.match-group_named.list.items
                c.loop-group.group-index c.group-item.result at i.over w.in-Some.known (named ∙ w.in-Some.is) new;
          })
      | in-None w ↦ (
          let same : c.match-group_named.list.items ≡ c.loop-group.list.items = let a = w.list-is in cc in
          record {
            few = let l = ap length same in omega arith;
            over = group_unknown net c.args.plan.now xs c.loop-group.list.items c.match-group_named.list.items
                c.loop-group.group-index c.group-item.result at i.over (named ∙ w.in-None.is) same;
          })
    ]
