use Rattle.tx_requests.proofs.Common.{rules, tests, lit<, YieldsList-from_str_split, code_named}
use Rattle.std.specs.Prelude.{is_none}
use Rattle.std.proofs.lemmas.Iterator.Search.{position_from_yields_List}
use Rattle.tx_requests.proofs.page_codes.first_missing.Goals as goal

pub returns : goal.returns
returns g c =
    position_from_yields_List (λ w. is_none (code_named c.args.plan.now w)) _ _ c.position.result c.position.ensures.ran
    (YieldsList-from_str_split 44 c.args.word.now (lit< tt) c.split.ensures.text c.split.ensures.has_more c.split.ensures.pattern)
    (λ x b q k. search (rules, tests))
