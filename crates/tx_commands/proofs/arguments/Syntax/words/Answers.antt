use Rattle.tx_commands.proofs.Common.{subst, with_rule, Takes}
use Rattle.tx_commands.specs.Grammar as grammar
use Rattle.tx_commands.proofs.Grammars.{several}
use Rattle.tx_commands.proofs.arguments.Syntax.words.Goals as goal

pub returns : goal.returns
returns c = λ app is.
    subst (λ r. Takes c.arg.result (with_rule app r))
    (several c.word.result c.num_args-words.result (grammar.word c.args.id.now) _
    c.num_args-words.ensures.0 c.num_args-words.ensures.1 c.word.ensures.rule) (c.arg.ensures app is)
