use Rattle.tx_risk.proofs.Common.{not, rules, tests, refl, any_from_yields_List, has_group}
use Rattle.std.proofs.lemmas.Iterator.Consumers.{YieldsList-from_first}
use Rattle.tx_risk.proofs.GroupWords.{unknown_is}
use Rattle.tx_risk.proofs.declaring.has_unknown.Goals as goal

pub returns : goal.returns
returns g c =
    any_from_yields_List (λ w. not (has_group c.args.plan.now w)) _ _ c.any.result c.any.ensures.ran
    (YieldsList-from_first (λ x. x.now) (λ s. s) c.args.words refl)
    (λ x b q k. search (rules, tests, unknown_is))
