use Rattle.std.proofs.Common.{◌≡◌, ◌∙◌, sym, ap, subst, List, map, ℕ, Option, Some, IfSome}
use Rattle.tx_plan.specs.declared.ids.Pair.{Pair}
use Rattle.tx_plan.specs.Declaring.{first_true, route_refusals, route_word_refusals, route_plan_refusals, pair_named, exchange_at, code_at, group_at}
use Rattle.tx_plan.specs.inner.RouteScan.{IsScanOf}
use Rattle.tx_plan.proofs.Absent.{nothing}
use Rattle.tx_plan.proofs.Refusing.{goes_on, stops, refused}
use Rattle.tx_plan.proofs.entries.route_entry.Goals as goal

pub returns-in_err-route_words-clause-err : goal.returns-in_err-route_words-clause-err
returns-in_err-route_words-clause-err g c =
    let p = c.args.plan.now in
    let gs = c.args.groups in
    refused c.from_residual.result c.in_err-route_words.field-0.0 (λ e. first_true (route_refusals p c.args.exchange.now c.args.code.now gs) ≡ Some e) c.from_residual.ensures.1
    (stops (route_word_refusals c.args.exchange.now c.args.code.now gs) (route_plan_refusals p (pair_named p c.args.exchange.now c.args.code.now) gs) c.in_err-route_words.field-0.0 (sym c.in_err-route_words.ensures))

pub returns-in_default-clause-err : goal.returns-in_default-clause-err
returns-in_default-clause-err g c =
    let p = c.args.plan.now in
    let gs = c.args.groups in
    goes_on (route_word_refusals c.args.exchange.now c.args.code.now gs) (route_plan_refusals p (pair_named p c.args.exchange.now c.args.code.now) gs) (sym c.in_ok-route_words.ensures)
    ∙ ap (λ (o : Option Pair). first_true (route_plan_refusals p o gs)) (sym c.pair_named-pair.ensures.pair ∙ nothing c.pair_named-pair.result c.in_default.not-Some)

pub route_row-requires : goal.route_row-requires
route_row-requires g c =
    let p = c.args.plan.now in
    let s = c.scan-scan.result in
    record { scan = subst (λ (o : Option Pair). IsScanOf p o c.args.groups s) c.in-Some.is (subst (λ (ws : List (List ℕ)). IsScanOf p c.pair_named-pair.result ws s) c.again.ensures c.scan-scan.ensures) }

pub returns-in_err-route_row-clause-err : goal.returns-in_err-route_row-clause-err
returns-in_err-route_row-clause-err g c =
    let p = c.args.plan.now in
    let gs = c.args.groups in
    refused c.from_residual-in_err-route_row.result c.in_err-route_row.field-0.0 (λ e. first_true (route_refusals p c.args.exchange.now c.args.code.now gs) ≡ Some e) c.from_residual-in_err-route_row.ensures.1
    (goes_on (route_word_refusals c.args.exchange.now c.args.code.now gs) (route_plan_refusals p (pair_named p c.args.exchange.now c.args.code.now) gs) (sym c.in_ok-route_words.ensures)
    ∙ ap (λ (o : Option Pair). first_true (route_plan_refusals p o gs)) (sym c.pair_named-pair.ensures.pair ∙ c.in-Some.is)
    ∙ sym c.in_err-route_row.ensures.gives)

pub returns-clause-ok : goal.returns-clause-ok
returns-clause-ok g c =
    let p = c.args.plan.now in
    let gs = c.args.groups in
    goes_on (route_word_refusals c.args.exchange.now c.args.code.now gs) (route_plan_refusals p (pair_named p c.args.exchange.now c.args.code.now) gs) (sym c.in_ok-route_words.ensures)
    ∙ ap (λ (o : Option Pair). first_true (route_plan_refusals p o gs)) (sym c.pair_named-pair.ensures.pair ∙ c.in-Some.is)
    ∙ sym c.in_ok-route_row.ensures.gives

pub returns-clause-pair : goal.returns-clause-pair
returns-clause-pair g c =
    let p = c.args.plan.now in
    subst (λ (o : Option Pair). IfSome o (λ x. x ≡ record { exchange = exchange_at p c.args.exchange.now; code = code_at p c.args.code.now })) c.in-Some.is c.pair_named-pair.ensures.named

pub returns-clause-groups : goal.returns-clause-groups
returns-clause-groups g c = c.scan-scan.ensures.list c.in_ok-route_row.ensures.few ∙ ap (map (group_at c.args.plan.now)) c.again.ensures

pub returns-clause-fresh : goal.returns-clause-fresh
returns-clause-fresh g c = c.in_ok-route_row.ensures.fresh
