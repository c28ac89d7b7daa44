use Rattle.tx_plan.proofs.Common.{◌∙◌, sym, ap, not, true, false, length, arith, le-leb, lt-leb}
use Rattle.tx_plan.proofs.Absent.{has_exchange-is}
use Rattle.tx_plan.proofs.Refusing.{taken, passed_on}
use Rattle.tx_plan.proofs.entries.exchange_entry.Goals as goal

pub returns-then-is_some-clause-err : goal.returns-then-is_some-clause-err
returns-then-is_some-clause-err g c =
    passed_on _ (ap not (sym c.if-not-is_name.ensures.gives)) ∙ taken _ (has_exchange-is c.args.plan.now c.args.name.now c.exchange_named.result true c.exchange_named.ensures c.if-is_some.ensures)

pub returns-then-exchanges-ge256-clause-err : goal.returns-then-exchanges-ge256-clause-err
returns-then-exchanges-ge256-clause-err g c =
    passed_on _ (ap not (sym c.if-not-is_name.ensures.gives)) ∙ passed_on _ (has_exchange-is c.args.plan.now c.args.name.now c.exchange_named.result false c.exchange_named.ensures c.if-is_some.ensures) ∙ taken _ (le-leb 256 (length c.args.plan.now.exchanges) (let e = c.exchanges.ensures.count in let t = c.if-exchanges-ge256.true in omega arith))

pub returns-clause-ok : goal.returns-clause-ok
returns-clause-ok g c =
    passed_on _ (ap not (sym c.if-not-is_name.ensures.gives)) ∙ passed_on _ (has_exchange-is c.args.plan.now c.args.name.now c.exchange_named.result false c.exchange_named.ensures c.if-is_some.ensures) ∙ passed_on _ (lt-leb 256 (length c.args.plan.now.exchanges) (let e = c.exchanges.ensures.count in let t = c.if-exchanges-ge256.false in omega arith))

pub returns-clause-fresh : goal.returns-clause-fresh
returns-clause-fresh g c =
    has_exchange-is c.args.plan.now c.args.name.now c.exchange_named.result false c.exchange_named.ensures c.if-is_some.ensures
