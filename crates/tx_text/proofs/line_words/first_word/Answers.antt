use Rattle.std.proofs.Common.{arith, rules}
use Rattle.tx_text.proofs.WordLists.{cuts_word, CutsWord}
use Rattle.tx_text.proofs.line_words.first_word.Goals as goal

pub returns-then-is_empty : goal.returns-then-is_empty
returns-then-is_empty c =
    let cut : CutsWord c.args.text.now c.split_at-2.result.0.now c.split_at-2.result.1.now = cuts_word _ c.split_at.result.1.now _ _ (search rules) (search rules) (search rules) in
    cut.none (search rules)

pub returns-else-is_empty : goal.returns-else-is_empty
returns-else-is_empty c =
    let cut : CutsWord c.args.text.now c.split_at-2.result.0.now c.split_at-2.result.1.now = cuts_word _ c.split_at.result.1.now _ _ (search rules) (search rules) (search rules) in
    cut.some (grind arith)
