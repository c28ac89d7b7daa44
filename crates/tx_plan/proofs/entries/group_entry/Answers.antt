use Rattle.tx_plan.proofs.Common.{◌∙◌, sym, ap, refl, not, true, false, ◌||◌, Some, length, arith, le-leb, lt-leb, has_exchange}
use Rattle.tx_plan.proofs.Absent.{none_found, has_exchange-is, has_group-is}
use Rattle.tx_plan.proofs.Refusing.{taken, passed_on}
use Rattle.tx_plan.proofs.entries.group_entry.Goals as goal

pub returns-then-not-are_names-clause-err : goal.returns-then-not-are_names-clause-err
returns-then-not-are_names-clause-err g c =
    taken _ (sym c.if-not-are_names.ensures.gives)

pub returns-then-not-is_count-clause-err : goal.returns-then-not-is_count-clause-err
returns-then-not-is_count-clause-err g c =
    passed_on _ (sym c.if-not-are_names.ensures.gives) ∙ taken _ (ap not (sym c.if-not-is_count.ensures))

pub returns-then-is_some-clause-err : goal.returns-then-is_some-clause-err
returns-then-is_some-clause-err g c =
    passed_on _ (sym c.if-not-are_names.ensures.gives) ∙ passed_on _ (ap not (sym c.if-not-is_count.ensures)) ∙ taken _ (has_group-is c.args.plan.now c.args.name.now c.group_named.result true c.group_named.ensures c.if-is_some.ensures)

pub returns-in_default-clause-err : goal.returns-in_default-clause-err
returns-in_default-clause-err g c =
    passed_on _ (sym c.if-not-are_names.ensures.gives) ∙ passed_on _ (ap not (sym c.if-not-is_count.ensures)) ∙ passed_on _ (has_group-is c.args.plan.now c.args.name.now c.group_named.result false c.group_named.ensures c.if-is_some.ensures) ∙ taken _ (ap (λ x. not x || not (has_exchange c.args.plan.now c.args.b.now)) (has_exchange-is c.args.plan.now c.args.a.now c.exchange_named.result false c.exchange_named.ensures (none_found c.exchange_named.result c.in_default.not-Some)))

pub returns-in_default-exchange_named-clause-err : goal.returns-in_default-exchange_named-clause-err
returns-in_default-exchange_named-clause-err g c =
    let ha = has_exchange-is c.args.plan.now c.args.a.now (Some c.in-Some.first) true c.in-Some.ensures refl in
    let hb = has_exchange-is c.args.plan.now c.args.b.now c.exchange_named-2.result false c.exchange_named-2.ensures (none_found c.exchange_named-2.result c.in_default-exchange_named.not-Some) in
    passed_on _ (sym c.if-not-are_names.ensures.gives) ∙ passed_on _ (ap not (sym c.if-not-is_count.ensures)) ∙ passed_on _ (has_group-is c.args.plan.now c.args.name.now c.group_named.result false c.group_named.ensures c.if-is_some.ensures) ∙ taken _ (λ i. not (ha i) || not (hb i))

pub returns-then-eq-clause-err : goal.returns-then-eq-clause-err
returns-then-eq-clause-err g c =
    let ha = has_exchange-is c.args.plan.now c.args.a.now (Some c.in-Some.first) true c.in-Some.ensures refl in
    let hb = has_exchange-is c.args.plan.now c.args.b.now (Some c.in-Some-exchange_named.second) true c.in-Some-exchange_named.ensures refl in
    passed_on _ (sym c.if-not-are_names.ensures.gives) ∙ passed_on _ (ap not (sym c.if-not-is_count.ensures)) ∙ passed_on _ (has_group-is c.args.plan.now c.args.name.now c.group_named.result false c.group_named.ensures c.if-is_some.ensures) ∙ passed_on _ (λ i. not (ha i) || not (hb i)) ∙ taken _ (sym c.if-eq.ensures)

pub returns-then-groups-ge4096-clause-err : goal.returns-then-groups-ge4096-clause-err
returns-then-groups-ge4096-clause-err g c =
    let ha = has_exchange-is c.args.plan.now c.args.a.now (Some c.in-Some.first) true c.in-Some.ensures refl in
    let hb = has_exchange-is c.args.plan.now c.args.b.now (Some c.in-Some-exchange_named.second) true c.in-Some-exchange_named.ensures refl in
    passed_on _ (sym c.if-not-are_names.ensures.gives) ∙ passed_on _ (ap not (sym c.if-not-is_count.ensures)) ∙ passed_on _ (has_group-is c.args.plan.now c.args.name.now c.group_named.result false c.group_named.ensures c.if-is_some.ensures) ∙ passed_on _ (λ i. not (ha i) || not (hb i)) ∙ passed_on _ (sym c.if-eq.ensures) ∙ taken _ (le-leb 4096 (length c.args.plan.now.groups) (let e = c.groups.ensures.count in let t = c.if-groups-ge4096.true in omega arith))

pub returns-clause-ok : goal.returns-clause-ok
returns-clause-ok g c =
    let ha = has_exchange-is c.args.plan.now c.args.a.now (Some c.in-Some.first) true c.in-Some.ensures refl in
    let hb = has_exchange-is c.args.plan.now c.args.b.now (Some c.in-Some-exchange_named.second) true c.in-Some-exchange_named.ensures refl in
    passed_on _ (sym c.if-not-are_names.ensures.gives) ∙ passed_on _ (ap not (sym c.if-not-is_count.ensures)) ∙ passed_on _ (has_group-is c.args.plan.now c.args.name.now c.group_named.result false c.group_named.ensures c.if-is_some.ensures) ∙ passed_on _ (λ i. not (ha i) || not (hb i)) ∙ passed_on _ (sym c.if-eq.ensures) ∙ passed_on _ (lt-leb 4096 (length c.args.plan.now.groups) (let e = c.groups.ensures.count in let t = c.if-groups-ge4096.false in omega arith))

pub returns-clause-fresh : goal.returns-clause-fresh
returns-clause-fresh g c =
    has_group-is c.args.plan.now c.args.name.now c.group_named.result false c.group_named.ensures c.if-is_some.ensures
