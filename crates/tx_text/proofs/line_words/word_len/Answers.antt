use Rattle.tx_text.proofs.Common.{◌||◌, ◌∙◌, rules, tests, YieldsList-from_slice, position_from_yields_List, is_blank, is_hash}
use Rattle.tx_text.proofs.Indexes.{index_or_len}
use Rattle.tx_text.proofs.line_words.word_len.Goals as goal

pub returns-clause-count : goal.returns-clause-count
returns-clause-count c =
    let found = position_from_yields_List (λ b. is_blank b || is_hash b) _ _ c.position-end.result c.position-end.ensures.ran (YieldsList-from_slice _ c.iter.ensures.rest) (λ x b q k. search (rules, tests)) in
    c.unwrap_or.ensures ∙ index_or_len (λ b. is_blank b || is_hash b) c.args.text.now _ found
