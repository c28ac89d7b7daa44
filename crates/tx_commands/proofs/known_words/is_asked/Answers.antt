use Rattle.std.proofs.Common.{rules, tests, lit<}
use Rattle.std.proofs.lemmas.Iterator.Search.{any_from_yields_List}
use Rattle.std.proofs.lemmas.Iterator.Splits.{YieldsList-from_str_split}
use Rattle.tx_commands.specs.Entries.{texts, is_asked_by}
use Rattle.tx_commands.proofs.known_words.is_asked.Goals as goal

pub returns : goal.returns
returns c =
    any_from_yields_List (λ word. is_asked_by word (texts c.args.entry.now)) _ _ c.any.result c.any.ensures.ran
    (YieldsList-from_str_split 32 c.args.line.now (lit< tt) c.split.ensures.text c.split.ensures.has_more c.split.ensures.pattern)
    (λ x b q k. search (rules, tests))
