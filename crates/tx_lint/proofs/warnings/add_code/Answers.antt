use Rattle.std.proofs.lemmas.Result.{IfOk-weaker}
use Rattle.tx_lint.proofs.Warned.{code_told}
use Rattle.tx_lint.proofs.warnings.add_code.Goals as goal

pub returns : goal.returns
returns g c =
    IfOk-weaker c.add_if.result _ _ (λ x more. code_told c.args.plan.now c.args.code c.args.line
    c.is_unlisted.result c.args.found.now.items c.add_ambiguous.new.found.items
    c.add_if.new.found.items c.is_unlisted.ensures c.in_ok-add_ambiguous.ensures more)
    c.add_if.ensures
