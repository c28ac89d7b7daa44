use Rattle.tx_lint.proofs.Common.{List, ℕ, option_map, puts_then, puts_is}
use Rattle.std.specs.Prelude.{decimal}
use Rattle.std.specs.Borrow.{Bor}
use Rattle.tx_lint.specs.LintText.{word_text}
use Rattle.tx_lint.proofs.Texts.{told_cut}
use Rattle.tx_lint.proofs.lint_text.write_front.Goals as goal

pub returns : goal.returns
returns g c =
    let line = decimal c.args.line in
    let rest = word_text (option_map (λ (w : Bor (List ℕ)). w.now) c.args.word) in
    puts_then c.write_escaped.ensures
    (puts_is (told_cut line c.args.row.0.now c.args.row.1.now rest) (puts_then (rw (c.as_bytes-line.ensures.value, c.format.ensures.text) at c.put_parts.ensures) c.write_word.ensures))
