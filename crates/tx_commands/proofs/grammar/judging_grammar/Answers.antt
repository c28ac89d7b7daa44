use Rattle.std.proofs.Common.{refl}
use Rattle.tx_commands.proofs.Grammars.{one_more}
use Rattle.tx_commands.proofs.grammar.judging_grammar.Goals as goal

pub returns : goal.returns
returns c =
    let lint = one_more _ _ _ _ _ c.top_grammar.ensures c.lint_grammar.ensures refl
    c.with_command.ensures in
    let audit = one_more _ _ _ _ _ lint c.audit_grammar.ensures refl
    c.with_command-program.ensures in
    let grade = one_more _ _ _ _ _ audit c.grade_grammar.ensures refl
    c.with_command-2.ensures in
    let mend = one_more _ _ _ _ _ grade c.mend_grammar.ensures refl
    c.with_command-program-2.ensures in
    let change = one_more _ _ _ _ _ mend c.change_grammar.ensures refl
    c.with_command-3.ensures in
    let order = one_more _ _ _ _ _ change c.order_grammar.ensures refl
    c.with_command-program-3.ensures in
    let survive = one_more _ _ _ _ _ order c.survive_grammar.ensures refl
    c.with_command-4.ensures in
    let page = one_more _ _ _ _ _ survive c.page_grammar.ensures refl
    c.with_command-program-4.ensures in
    one_more _ _ _ _ _ page c.check_grammar.ensures refl c.with_command-5.ensures
