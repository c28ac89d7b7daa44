use Rattle.tx_lint.proofs.Common.{◌++◌, sym, ap, some, some_first, some_last, puts_is, puts_then, puts_wrote}
use Rattle.tx_lint.specs.LintText.{more_codes, more_end, told_front, warning_word}
use Rattle.tx_lint.proofs.lint_text.write_warning.Goals as goal

pub returns : goal.returns
returns g c =
    let w = c.args.warning in
    let word = warning_word c.args.plan.now c.args.risks.now w.1 in
    let end = more_end (more_codes w.1) in
    puts_wrote _ (some_first _ end (some_last _ _ some))
    (puts_is (ap (λ r. told_front c.args.file.now w.0 r word ++ end) (sym c.code_and_name.ensures))
    (puts_then (rw c.warning_word-word.ensures at c.write_front.ensures) (rw c.more_codes.ensures at c.write_more.ensures)))
    c.finish.ensures
