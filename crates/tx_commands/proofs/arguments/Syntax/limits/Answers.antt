use Rattle.tx_commands.proofs.Common.{subst, rule_of, with_rule, Takes}
use Rattle.tx_commands.specs.Grammar as grammar
use Rattle.tx_commands.proofs.Grammars.{needs}
use Rattle.tx_commands.proofs.arguments.Syntax.limits.Goals as goal

pub returns : goal.returns
returns c = λ app is.
    let limit_is = needs c.number.result _ grammar.limit c.args.needed c.required-limit.ensures c.number.ensures.rule in
    let spare_is = needs c.number-2.result _ grammar.spare c.args.needed c.required-spare.ensures c.number-2.ensures.rule in
    subst (λ s. Takes c.arg-2.result (with_rule (with_rule app (record grammar.limit { required = c.args.needed })) s)) spare_is
    (subst (λ l. Takes c.arg-2.result (with_rule (with_rule app l) (rule_of c.required-spare.result))) limit_is (c.arg-2.ensures _ (c.arg.ensures app is)))
