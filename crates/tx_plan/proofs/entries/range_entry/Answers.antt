use Rattle.tx_plan.proofs.Common.{◌∙◌, sym, ap, refl, not, true, false, ◌||◌, Some, length, unwrap_or, arith, le-leb, lt-leb, is_national, overlaps}
use Rattle.tx_plan.proofs.Absent.{none_found, has_code-is}
use Rattle.tx_plan.proofs.Refusing.{taken, passed_on, read_right, read_same}
use Rattle.tx_plan.proofs.entries.range_entry.Goals as goal

pub returns-then-not-are_figures-clause-err : goal.returns-then-not-are_figures-clause-err
returns-then-not-are_figures-clause-err g c = taken _ (ap not (sym c.if-not-are_figures.ensures.gives))

pub returns-in_default-code_named-clause-err : goal.returns-in_default-code_named-clause-err
returns-in_default-code_named-clause-err g c =
    let low = read_right (is_national c.args.low.now) c.args.low.now c.in-Some.least c.in-Some.ensures in
    let high = read_right (is_national c.args.high.now) c.args.high.now c.in-Some-read.greatest c.in-Some-read.ensures in
    passed_on _ (ap not (sym c.if-not-are_figures.ensures.gives)) ∙ passed_on _ (λ i. not (low i) || not (high i)) ∙ taken _ (ap not (has_code-is c.args.plan.now c.args.code.now c.code_named.result false c.code_named.ensures (none_found c.code_named.result c.in_default-code_named.not-Some)))

pub returns-then-not-is_ordered-clause-err : goal.returns-then-not-is_ordered-clause-err
returns-then-not-is_ordered-clause-err g c =
    let low = read_right (is_national c.args.low.now) c.args.low.now c.in-Some.least c.in-Some.ensures in
    let high = read_right (is_national c.args.high.now) c.args.high.now c.in-Some-read.greatest c.in-Some-read.ensures in
    passed_on _ (ap not (sym c.if-not-are_figures.ensures.gives)) ∙ passed_on _ (λ i. not (low i) || not (high i)) ∙ passed_on _ (ap not (has_code-is c.args.plan.now c.args.code.now (Some c.in-Some-code_named.index) true c.in-Some-code_named.ensures refl)) ∙ taken _ (ap not (sym c.if-not-is_ordered.ensures))

pub returns-then-overlaps-clause-err : goal.returns-then-overlaps-clause-err
returns-then-overlaps-clause-err g c =
    let low = read_right (is_national c.args.low.now) c.args.low.now c.in-Some.least c.in-Some.ensures in
    let high = read_right (is_national c.args.high.now) c.args.high.now c.in-Some-read.greatest c.in-Some-read.ensures in
    passed_on _ (ap not (sym c.if-not-are_figures.ensures.gives)) ∙ passed_on _ (λ i. not (low i) || not (high i)) ∙ passed_on _ (ap not (has_code-is c.args.plan.now c.args.code.now (Some c.in-Some-code_named.index) true c.in-Some-code_named.ensures refl)) ∙ passed_on _ (ap not (sym c.if-not-is_ordered.ensures)) ∙ taken _ (ap (λ o. overlaps c.args.plan.now o c.args.low.now c.args.high.now) (sym c.in-Some-code_named.ensures) ∙ sym c.if-overlaps.ensures)

pub returns-then-ranges-ge4096-clause-err : goal.returns-then-ranges-ge4096-clause-err
returns-then-ranges-ge4096-clause-err g c =
    let low = read_right (is_national c.args.low.now) c.args.low.now c.in-Some.least c.in-Some.ensures in
    let high = read_right (is_national c.args.high.now) c.args.high.now c.in-Some-read.greatest c.in-Some-read.ensures in
    passed_on _ (ap not (sym c.if-not-are_figures.ensures.gives)) ∙ passed_on _ (λ i. not (low i) || not (high i)) ∙ passed_on _ (ap not (has_code-is c.args.plan.now c.args.code.now (Some c.in-Some-code_named.index) true c.in-Some-code_named.ensures refl)) ∙ passed_on _ (ap not (sym c.if-not-is_ordered.ensures)) ∙ passed_on _ (ap (λ o. overlaps c.args.plan.now o c.args.low.now c.args.high.now) (sym c.in-Some-code_named.ensures) ∙ sym c.if-overlaps.ensures) ∙ taken _ (le-leb 4096 (length c.args.plan.now.ranges) (let e = c.ranges-2.ensures.count in let t = c.if-ranges-ge4096.true in omega arith))

pub returns-clause-ok : goal.returns-clause-ok
returns-clause-ok g c =
    let low = read_right (is_national c.args.low.now) c.args.low.now c.in-Some.least c.in-Some.ensures in
    let high = read_right (is_national c.args.high.now) c.args.high.now c.in-Some-read.greatest c.in-Some-read.ensures in
    passed_on _ (ap not (sym c.if-not-are_figures.ensures.gives)) ∙ passed_on _ (λ i. not (low i) || not (high i)) ∙ passed_on _ (ap not (has_code-is c.args.plan.now c.args.code.now (Some c.in-Some-code_named.index) true c.in-Some-code_named.ensures refl)) ∙ passed_on _ (ap not (sym c.if-not-is_ordered.ensures)) ∙ passed_on _ (ap (λ o. overlaps c.args.plan.now o c.args.low.now c.args.high.now) (sym c.in-Some-code_named.ensures) ∙ sym c.if-overlaps.ensures) ∙ passed_on _ (lt-leb 4096 (length c.args.plan.now.ranges) (let e = c.ranges-2.ensures.count in let t = c.if-ranges-ge4096.false in omega arith))

pub returns-clause-entry : goal.returns-clause-entry
returns-clause-entry g c =
    let code = ap (λ o. unwrap_or o 0) c.in-Some-code_named.ensures in
    let low = read_same (is_national c.args.low.now) c.args.low.now c.in-Some.least c.in-Some.ensures in
    let high = read_same (is_national c.args.high.now) c.args.high.now c.in-Some-read.greatest c.in-Some-read.ensures in
    λ i. record { code = code i; low = low i; high = high i }
