use Rattle.tx_mend.proofs.Common.{ℕ, ◌∙◌, Bool, List, ap, sym, filter, ArrayVec}
use Rattle.tx_mend.specs.Lists.{leads_to, filled}
use Rattle.tx_mend.proofs.Dropping.{fill_put, fill_passed}
use Rattle.tx_mend.proofs.filling.fill_at.Goals as goal
use Rattle.tx_mend.proofs.filling.fill_at.Goals.{then-leads_to, else-leads_to}

pub loop-group-preserved : goal.loop-group-preserved
loop-group-preserved g c = λ of e.
    let t : ℕ → Bool = λ h. leads_to c.args.plan.now of c.args.rank c.args.exchange h in
    let xs = c.args.seizable.now in
    let all : List ℕ = filled c.args.limits.spare c.args.list.now.items (filter t xs) in
    let says = sym (c.leads_to.ensures of e) in
    elim c.if-leads_to.branch [
      | then-leads_to w ↦ fill_put xs c.loop-group.group-index c.group-item.result c.loop-group-test.true c.group-item.is c.args.limits.spare t c.loop-group.list.items all (c.loop-group.invariant of e) c.if-leads_to.list.items (says ∙ w.if-leads_to.true) (ap (λ (l : ArrayVec ℕ). l.items) w.list-is ∙ w.put.ensures)
      | else-leads_to w ↦ fill_passed xs c.loop-group.group-index c.group-item.result c.loop-group-test.true c.group-item.is c.args.limits.spare t c.loop-group.list.items all (c.loop-group.invariant of e) c.if-leads_to.list.items (says ∙ w.if-leads_to.false) (ap (λ (l : ArrayVec ℕ). l.items) w.list-is)
    ]
