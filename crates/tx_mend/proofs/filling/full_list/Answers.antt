use Rattle.tx_mend.proofs.Common.{◌∙◌, length, sym, ap, if◌then◌else◌, route_list, outgoing, kept_rank, list_by, kept_ranks}
use Rattle.tx_mend.proofs.Tables.{length_ranks, list_got, ranks_got, was_kept, was_ranked}
use Rattle.tx_mend.proofs.filling.full_list.Goals as goal

pub list_by_ranks-requires-clause-seizable : goal.list_by_ranks-requires-clause-seizable
list_by_ranks-requires-clause-seizable g c =
    let b = c.args.basis.now in
    let p = b.plan.now in
    c.groups_at.ensures ∙ list_got (outgoing p) (length p.exchanges) c.args.exchange b.seizable.now b.groups c.requires.exchange

pub list_by_ranks-requires-clause-long : goal.list_by_ranks-requires-clause-long
list_by_ranks-requires-clause-long g c =
    let b = c.args.basis.now in
    let p = b.plan.now in
    let w = was_ranked p b.limits.limit b.limits.spare c.args.code (kept_rank p c.args.code b.limits.limit b.limits.spare) c.in-Some.ranks.now (c.in-Some.ensures ∙ ranks_got (kept_ranks p b.limits.limit b.limits.spare) (length p.codes) c.index.result c.args.code b.table.now b.ranks c.requires.code c.index.ensures) in
    length_ranks p c.in-Some.ranks.now (kept_rank p c.args.code b.limits.limit b.limits.spare) w.1

pub returns-in-None : goal.returns-in-None
returns-in-None g c =
    let b = c.args.basis.now in
    let p = b.plan.now in
    let k = was_kept p b.limits.limit b.limits.spare c.args.code (kept_rank p c.args.code b.limits.limit b.limits.spare) (c.in-None.ensures ∙ ranks_got (kept_ranks p b.limits.limit b.limits.spare) (length p.codes) c.index.result c.args.code b.table.now b.ranks c.requires.code c.index.ensures) in
    c.group_list.ensures ∙ sym (ap (λ t. if t then route_list p c.args.exchange c.args.code else list_by p (kept_rank p c.args.code b.limits.limit b.limits.spare) c.args.code b.limits.spare c.args.exchange) k)

pub returns-in-Some : goal.returns-in-Some
returns-in-Some g c =
    let b = c.args.basis.now in
    let p = b.plan.now in
    let w = was_ranked p b.limits.limit b.limits.spare c.args.code (kept_rank p c.args.code b.limits.limit b.limits.spare) c.in-Some.ranks.now (c.in-Some.ensures ∙ ranks_got (kept_ranks p b.limits.limit b.limits.spare) (length p.codes) c.index.result c.args.code b.table.now b.ranks c.requires.code c.index.ensures) in
    c.list_by_ranks.ensures (kept_rank p c.args.code b.limits.limit b.limits.spare) w.1 ∙ sym (ap (λ t. if t then route_list p c.args.exchange c.args.code else list_by p (kept_rank p c.args.code b.limits.limit b.limits.spare) c.args.code b.limits.spare c.args.exchange) w.0)
