use Rattle.tx_lint.proofs.Common.{◌++◌, sym, ap, some, some_first, some_last, puts_is, puts_then, puts_wrote, told_held}
use Rattle.tx_lint.specs.LintText.{needing_end, told_front}
use Rattle.tx_lint.proofs.lint_text.write_fault.Goals as goal

pub returns : goal.returns
returns g c =
    let t = told_held c.args.told in
    puts_wrote _ (some_first _ (needing_end t.needing) (some_last _ _ some))
    (puts_is (ap (λ r. told_front c.args.file.now t.fault.line r t.fault.word ++ needing_end t.needing) (sym c.code_and_name.ensures))
    (puts_then c.write_front.ensures c.write_needing.ensures)) c.finish.ensures
