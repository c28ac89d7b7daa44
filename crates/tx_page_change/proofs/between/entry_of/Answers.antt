use Rattle.tx_page_change.proofs.Common.{sym, ap, ◌∙◌, route_list, is_barred, before_of, after_of}
use Rattle.tx_page_change.proofs.between.entry_of.Goals as goal

pub returns-in-Stage-clause-before : goal.returns-in-Stage-clause-before
returns-in-Stage-clause-before g c = c.list.ensures ∙ ap (λ b. route_list (before_of b) c.args.exchange c.args.code) (sym c.in-Stage.is)

pub returns-in-Stage-clause-after : goal.returns-in-Stage-clause-after
returns-in-Stage-clause-after g c = c.list-in-Stage.ensures ∙ ap (λ b. route_list (after_of b) c.args.exchange c.args.code) (sym c.in-Stage.is)

pub returns-in-Stage-clause-was_barred : goal.returns-in-Stage-clause-was_barred
returns-in-Stage-clause-was_barred g c = c.is_barred.ensures ∙ ap (λ b. is_barred (before_of b) c.args.exchange c.args.code) (sym c.in-Stage.is)

pub returns-in-Stage-clause-is_barred : goal.returns-in-Stage-clause-is_barred
returns-in-Stage-clause-is_barred g c = c.is_barred-in-Stage.ensures ∙ ap (λ b. is_barred (after_of b) c.args.exchange c.args.code) (sym c.in-Stage.is)
