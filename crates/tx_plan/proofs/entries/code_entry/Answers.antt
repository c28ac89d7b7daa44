use Rattle.tx_plan.proofs.Common.{◌∙◌, sym, ap, refl, not, true, false, Some, length, arith, le-leb, lt-leb}
use Rattle.tx_plan.proofs.Absent.{none_found, has_exchange-is, has_code-is}
use Rattle.tx_plan.proofs.Refusing.{taken, passed_on}
use Rattle.tx_plan.proofs.entries.code_entry.Goals as goal

pub returns-then-is_some-clause-err : goal.returns-then-is_some-clause-err
returns-then-is_some-clause-err g c =
    passed_on _ (ap not (sym c.if-not-is_name.ensures.gives)) ∙ passed_on _ (ap not (sym c.if-not-are_figures.ensures.gives)) ∙ taken _ (has_code-is c.args.plan.now c.args.code.now c.code_named.result true c.code_named.ensures c.if-is_some.ensures)

pub returns-in_default-clause-err : goal.returns-in_default-clause-err
returns-in_default-clause-err g c =
    passed_on _ (ap not (sym c.if-not-is_name.ensures.gives)) ∙ passed_on _ (ap not (sym c.if-not-are_figures.ensures.gives)) ∙ passed_on _ (has_code-is c.args.plan.now c.args.code.now c.code_named.result false c.code_named.ensures c.if-is_some.ensures) ∙ taken _ (ap not (has_exchange-is c.args.plan.now c.args.home.now c.exchange_named.result false c.exchange_named.ensures (none_found c.exchange_named.result c.in_default.not-Some)))

pub returns-then-codes-ge1100-clause-err : goal.returns-then-codes-ge1100-clause-err
returns-then-codes-ge1100-clause-err g c =
    passed_on _ (ap not (sym c.if-not-is_name.ensures.gives)) ∙ passed_on _ (ap not (sym c.if-not-are_figures.ensures.gives)) ∙ passed_on _ (has_code-is c.args.plan.now c.args.code.now c.code_named.result false c.code_named.ensures c.if-is_some.ensures) ∙ passed_on _ (ap not (has_exchange-is c.args.plan.now c.args.home.now (Some c.in-Some.home) true c.in-Some.ensures refl)) ∙ taken _ (le-leb 1100 (length c.args.plan.now.codes) (let e = c.codes.ensures.count in let t = c.if-codes-ge1100.true in omega arith))

pub returns-clause-ok : goal.returns-clause-ok
returns-clause-ok g c =
    passed_on _ (ap not (sym c.if-not-is_name.ensures.gives)) ∙ passed_on _ (ap not (sym c.if-not-are_figures.ensures.gives)) ∙ passed_on _ (has_code-is c.args.plan.now c.args.code.now c.code_named.result false c.code_named.ensures c.if-is_some.ensures) ∙ passed_on _ (ap not (has_exchange-is c.args.plan.now c.args.home.now (Some c.in-Some.home) true c.in-Some.ensures refl)) ∙ passed_on _ (lt-leb 1100 (length c.args.plan.now.codes) (let e = c.codes.ensures.count in let t = c.if-codes-ge1100.false in omega arith))

pub returns-clause-fresh : goal.returns-clause-fresh
returns-clause-fresh g c =
    has_code-is c.args.plan.now c.args.code.now c.code_named.result false c.code_named.ensures c.if-is_some.ensures
