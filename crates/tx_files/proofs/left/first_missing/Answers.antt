use Rattle.tx_files.proofs.Common.{rules, tests, lit<, YieldsList-from_str_split}
use Rattle.std.proofs.lemmas.Iterator.Search.{position_from_yields_List}
use Rattle.tx_files.specs.Left.{lack_group}
use Rattle.tx_files.proofs.left.first_missing.Goals as goal

pub returns : goal.returns
returns g c =
    position_from_yields_List (lack_group c.args.plan.now c.args.other.now) _ _ c.position.result c.position.ensures.ran
    (YieldsList-from_str_split 44 c.args.word.now (lit< tt) c.split.ensures.text c.split.ensures.has_more c.split.ensures.pattern)
    (λ x b q k. search (rules, tests))
