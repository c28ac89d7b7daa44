use Rattle.tx_lint.proofs.Common.{◌≡◌, ◌∙◌, ◌==◌, ◌≤◌, true, false, length, sym, arith, rules, slice_get, Route, entry_at, no_none}
use Rattle.tx_lint.proofs.Warned.{listed_there, unlisted_more, unlisted_all}
use Rattle.tx_lint.proofs.warnings.is_unlisted.Goals as goal

pub returns-then-eq : goal.returns-then-eq
returns-then-eq g c =
    let same : (c.in-Some.pair.1 == c.args.code) ≡ true = search rules in
    listed_there c.args.plan.now c.loop-index.index c.args.code c.in-Some.pair (sym c.in-Some.is ∙ c.route_at.ensures.value) same

pub unreachable-requires : goal.unreachable-requires
unreachable-requires g c =
    let p = c.args.plan.now in
    let t = c.loop-index-test.true in
    let n = c.routes-index-end.ensures.count in
    let e = entry_at p.routes c.loop-index.index (omega arith) in
    no_none (λ (r : Route). (r.exchange, r.code)) (slice_get p.routes c.loop-index.index) e.0 e.1
    (sym c.in-None.is ∙ c.route_at.ensures.value)

pub loop-index-preserved : goal.loop-index-preserved
loop-index-preserved g c =
    let other : (c.in-Some.pair.1 == c.args.code) ≡ false = search rules in
    unlisted_more c.args.plan.now c.loop-index.index c.args.code c.in-Some.pair (sym c.in-Some.is ∙ c.route_at.ensures.value) other
    c.loop-index.invariant

pub returns : goal.returns
returns g c =
    let all : length c.args.plan.now.routes ≤ c.loop-index.index =
    let t = c.loop-index-test.false in let n = c.routes-index-end.ensures.count in omega arith in
    unlisted_all c.args.plan.now c.loop-index.index c.args.code _ all c.loop-index.invariant
    (search rules)
