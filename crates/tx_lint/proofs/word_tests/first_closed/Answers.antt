use Rattle.tx_lint.proofs.Common.{rules, tests, refl, find_from_yields_List, YieldsList-from_first}
use Rattle.tx_plan.specs.Declaring.{is_not_outgoing}
use Rattle.tx_lint.proofs.word_tests.first_closed.Goals as goal

pub returns : goal.returns
returns g c =
    find_from_yields_List (is_not_outgoing c.args.plan.now c.args.pair.now) _ _ c.find.result
    c.find.ensures.ran (YieldsList-from_first (λ x. x.now) (λ s. s) c.args.words refl)
    (λ x b q k. search (rules, tests))
