use Rattle.tx_text.proofs.Common.{not, ◌∙◌, sym, rules, tests, YieldsList-from_slice, position_from_yields_List, is_blank}
use Rattle.tx_text.proofs.Indexes.{index_or_len, same_run}
use Rattle.tx_text.proofs.line_words.count_blanks.Goals as goal

pub returns-clause-count : goal.returns-clause-count
returns-clause-count c =
    let found = position_from_yields_List (λ b. not (is_blank b)) _ _ c.position-index.result c.position-index.ensures.ran (YieldsList-from_slice _ c.iter.ensures.rest) (λ x b q k. search (rules, tests)) in
    c.unwrap_or.ensures ∙ index_or_len (λ b. not (is_blank b)) c.args.text.now _ found ∙ sym (same_run is_blank c.args.text.now)
