use Rattle.tx_mend.proofs.Common.{◌∙◌, ◌||◌, not, sym, ap, leads_on}
use Rattle.tx_mend.proofs.trial.Trial.is_on.Goals as goal

pub returns-then-keeps : goal.returns-then-keeps
returns-then-keeps g c = λ of e.
    let p = c.args.self.now.plan.now in
    c.leads_on.ensures of e ∙ sym (ap (λ b. not b || leads_on p of c.args.exchange c.args.group) (sym c.keeps.ensures ∙ c.if-keeps.true))

pub returns : goal.returns
returns g c = λ of e.
    let p = c.args.self.now.plan.now in
    sym (ap (λ b. not b || leads_on p of c.args.exchange c.args.group) (sym c.keeps.ensures ∙ c.if-keeps.false))
