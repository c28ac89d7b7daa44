use Rattle.tx_lint.proofs.Common.{not, rules, tests, refl, find_from_yields_List, YieldsList-from_first}
use Rattle.tx_plan.specs.Declaring.{has_group}
use Rattle.tx_lint.proofs.word_tests.first_unknown_group.Goals as goal

pub returns : goal.returns
returns g c =
    find_from_yields_List (λ w. not (has_group c.args.plan.now w)) _ _ c.find.result c.find.ensures.ran
    (YieldsList-from_first (λ x. x.now) (λ s. s) c.args.words refl) (λ x b q k. search (rules, tests))
