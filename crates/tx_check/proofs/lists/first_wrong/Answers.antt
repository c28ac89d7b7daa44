use Rattle.tx_check.proofs.Common.{is_none, sym, ◌∙◌, ranks_for, rank_beyond, is_at_least}
use Rattle.tx_check.proofs.Wrong.{none_unranked, none_not_lower}
use Rattle.tx_check.proofs.lists.first_wrong.Goals as goal

pub returns-in-None-clause-unranked : goal.returns-in-None-clause-unranked
returns-in-None-clause-unranked g c =
    let beyond = rank_beyond c.args.plan.now (ranks_for c.args.plan.now c.args.cert.now) c.args.code c.args.exchange in
    none_unranked (λ x. is_none (beyond x)) (λ x. is_at_least (beyond x) c.args.rank) c.args.list.now (sym c.first_either.ensures ∙ c.in-None.is)

pub returns-in-None-clause-not_lower : goal.returns-in-None-clause-not_lower
returns-in-None-clause-not_lower g c =
    let beyond = rank_beyond c.args.plan.now (ranks_for c.args.plan.now c.args.cert.now) c.args.code c.args.exchange in
    none_not_lower (λ x. is_none (beyond x)) (λ x. is_at_least (beyond x) c.args.rank) c.args.list.now (sym c.first_either.ensures ∙ c.in-None.is)
