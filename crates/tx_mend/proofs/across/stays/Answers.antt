use Rattle.tx_mend.proofs.Common.{◌≡◌, ℕ, ◌∙◌, Option, Some, None, true, length, sym, ap, arith, option_map_or, leads_below}
use Rattle.tx_mend.proofs.Placed.{value_at}
use Rattle.tx_mend.proofs.across.stays.Goals as goal

pub returns-in-Some : goal.returns-in-Some
returns-in-Some g c = λ of e.
    let p = c.args.plan.now in
    let x = c.args.exchange in
    let at = c.index.ensures in
    let h = c.requires.exchange in
    let here : of x ≡ Some c.in-Some.rank = sym (value_at of (length p.exchanges) c.index.result None c.args.ranks.now e (omega arith) ∙ ap of at) ∙ c.in-Some.is in
    c.leads_below.ensures of e ∙ sym (ap (λ (o : Option ℕ). option_map_or (λ r. leads_below p of r x c.args.group) o true) here)

pub returns-in-None : goal.returns-in-None
returns-in-None g c = λ of e.
    let p = c.args.plan.now in
    let x = c.args.exchange in
    let at = c.index.ensures in
    let h = c.requires.exchange in
    let here : of x ≡ None = sym (value_at of (length p.exchanges) c.index.result None c.args.ranks.now e (omega arith) ∙ ap of at) ∙ c.in-None.is in
    sym (ap (λ (o : Option ℕ). option_map_or (λ r. leads_below p of r x c.args.group) o true) here)
