use Rattle.tx_files.proofs.Common.{rules, tests, lit<, bytes_eq, YieldsList-from_str_split}
use Rattle.std.proofs.lemmas.Iterator.Search.{any_from_yields_List}
use Rattle.tx_files.proofs.names.is_named.Goals as goal

pub returns : goal.returns
returns c =
    any_from_yields_List (λ w. bytes_eq w c.args.name.now) _ _ c.any.result c.any.ensures.ran
    (YieldsList-from_str_split 44 c.args.word.now (lit< tt) c.split.ensures.text c.split.ensures.has_more c.split.ensures.pattern)
    (λ x b q k. search (rules, tests))
