use Rattle.tx_risk.proofs.Common.{ℕ, Option, ◌∙◌, ap, sym, append-nil, Vec, group_name, group_named}
use Rattle.tx_risk.proofs.RisksIn.{found_next}
use Rattle.tx_risk.proofs.risks.groups_over.Goals as goal
use Rattle.tx_risk.proofs.risks.groups_over.Goals.{in-Some+in_ok-push-in-Some, in-None}

pub loop-i-preserved : goal.loop-i-preserved
loop-i-preserved g c =
    let p = c.args.other.now in
    let h : ℕ → Option ℕ = λ k. group_named p (group_name c.args.plan.now k) in
    let told = ap (group_named p) (sym c.group_name.ensures.value) ∙ sym c.group_named.ensures in
    elim c.match-group_named.branch [
      | in-Some+in_ok-push-in-Some w ↦
          found_next h c.args.groups.now c.loop-i.i c.index-groups-i.result _ c.loop-i.found.items _
          c.loop-i-test.true c.index-groups-i.is c.loop-i.invariant (told ∙ w.in-Some.is)
          (ap (λ (v : Vec _ _). v.items) w.found-is ∙ w.in_ok-push-in-Some.ensures.items)
      | in-None w ↦
          found_next h c.args.groups.now c.loop-i.i c.index-groups-i.result _ c.loop-i.found.items _
          c.loop-i-test.true c.index-groups-i.is c.loop-i.invariant (told ∙ w.in-None.is)
          (ap (λ (v : Vec _ _). v.items) w.found-is ∙ sym (append-nil c.loop-i.found.items))
    ]
