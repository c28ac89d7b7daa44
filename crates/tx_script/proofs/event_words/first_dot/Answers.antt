use Rattle.std.proofs.Common.{rules, tests}
use Rattle.std.proofs.lemmas.Iterator.{YieldsList-from_slice}
use Rattle.std.proofs.lemmas.Iterator.Search.{position_from_yields_List}
use Rattle.tx_script.specs.Events.{is_dot}
use Rattle.tx_script.proofs.event_words.first_dot.Goals as goal

pub returns-clause-index : goal.returns-clause-index
returns-clause-index c = position_from_yields_List is_dot _ _ c.position.result c.position.ensures.ran (YieldsList-from_slice _ c.iter.ensures.rest) (λ x b q k. search (rules, tests))
