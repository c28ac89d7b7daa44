use Rattle.std.specs.List.{list_any}
use Rattle.std.specs.Str.{bytes_eq}
use Rattle.std.proofs.Common.{rules, tests, refl, ap, ◌∙◌}
use Rattle.std.proofs.lemmas.Iterator.Search.{any_from_yields_List}
use Rattle.std.proofs.lemmas.Iterator.Consumers.{YieldsList-from_first}
use Rattle.tx_text.proofs.line_words.Words.contains.Goals as goal

pub returns : goal.returns
returns c =
    any_from_yields_List (bytes_eq c.args.word.now) _ _ c.any.result c.any.ensures.ran
    (YieldsList-from_first (λ x. x.now) (λ s. s) c.again.result refl)
    (λ x b q k. search (rules, tests)) ∙ ap (list_any (bytes_eq c.args.word.now)) c.again.ensures
