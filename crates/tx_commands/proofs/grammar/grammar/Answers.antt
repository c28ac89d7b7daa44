use Rattle.std.proofs.Common.{refl}
use Rattle.tx_commands.proofs.Grammars.{one_more}
use Rattle.tx_commands.proofs.grammar.grammar.Goals as goal

pub returns : goal.returns
returns c =
    let run = one_more _ _ _ _ _ c.judging_grammar.ensures c.run_grammar.ensures refl
    c.with_command.ensures in
    let listed = one_more _ _ _ _ _ run c.codes_grammar.ensures refl
    c.with_command-program.ensures in
    let traced = one_more _ _ _ _ _ listed c.trace_grammar.ensures refl
    c.with_command-2.ensures in
    let fill = one_more _ _ _ _ _ traced c.fill_grammar.ensures refl
    c.with_command-program-2.ensures in
    one_more _ _ _ _ _ fill c.explain_grammar.ensures refl c.with_command-3.ensures
