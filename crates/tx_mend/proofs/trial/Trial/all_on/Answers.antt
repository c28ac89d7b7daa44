use Rattle.tx_mend.proofs.Common.{ℕ, ◌∙◌, ◌||◌, ◌&&◌, ◌==◌, not, Bool, sym, leads_on, stays_by, ranked}
use Rattle.tx_mend.proofs.Dropping.{all_step}
use Rattle.tx_mend.proofs.trial.Trial.all_on.Goals as goal

pub loop-group-preserved : goal.loop-group-preserved
loop-group-preserved g c = λ of e.
    let s = c.args.self.now in
    let x = c.args.exchange in
    let on : ℕ → Bool = λ h. not (stays_by s.plan.now (ranked s.ranks.now) x h || ((x == s.exchange) && (h == s.group))) || leads_on s.plan.now of x h in
    all_step c.list-list.result.now c.loop-group.group-index c.group-item.result c.loop-group-test.true c.group-item.is on (c.loop-group.invariant of e) (sym (c.is_on.ensures of e) ∙ c.if-not-is_on.false)
