use Rattle.std.proofs.Common.{◌≡◌, ℕ, ◌∙◌, List, Option, Some, None, length, sym, ap, arith}
use Rattle.tx_mend.proofs.Placed.{value_at}
use Rattle.tx_mend.specs.Lists.{filled, groups_below, list_of_rank}
use Rattle.tx_mend.proofs.filling.list_by_ranks.Goals as goal

pub returns-in-Some : goal.returns-in-Some
returns-in-Some g c = λ of e.
    let p = c.args.plan.now in
    let x = c.args.exchange in
    let at = c.index.ensures in
    let h = c.requires.exchange in
    let here : of x ≡ Some c.in-Some.rank = sym (value_at of (length p.exchanges) c.index.result None c.args.ranks.now e (omega arith) ∙ ap of at) ∙ c.in-Some.is in
    c.fill.ensures of e ∙ ap (λ (l : List ℕ). filled c.args.limits.spare l (groups_below p of c.in-Some.rank x)) (c.kept_below-list.ensures of e) ∙ sym (ap (λ (o : Option ℕ). list_of_rank p of c.args.code c.args.limits.spare x o) here)

pub returns-in-None : goal.returns-in-None
returns-in-None g c = λ of e.
    let p = c.args.plan.now in
    let x = c.args.exchange in
    let at = c.index.ensures in
    let h = c.requires.exchange in
    let here : of x ≡ None = sym (value_at of (length p.exchanges) c.index.result None c.args.ranks.now e (omega arith) ∙ ap of at) ∙ c.in-None.is in
    c.group_list.ensures ∙ sym (ap (λ (o : Option ℕ). list_of_rank p of c.args.code c.args.limits.spare x o) here)
