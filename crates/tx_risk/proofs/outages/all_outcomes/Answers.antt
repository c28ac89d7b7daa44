use Rattle.tx_risk.proofs.Common.{◌≡◌, ◌<◌, ◌≤◌, ◌∙◌, get_or, length, refl, sym, subst, arith, AllByRecursion, take_all, slice_get_read, all_at}
use Rattle.tx_risk.proofs.AddedOutages.{IsKnown, outcomes_next, outage_known, all_known}
use Rattle.tx_risk.proofs.outages.all_outcomes.Goals as goal

pub outcome_of-requires-clause-known : goal.outcome_of-requires-clause-known
outcome_of-requires-clause-known g c =
    let p = c.args.plan.now in
    let os = c.in_ok-outages.outages.items in
    let i = c.loop-i.i in
    let o = c.index-outage.result.now in
    let low : i < length os = let t = c.loop-i-test.true in let e = c.len-i-end.ensures in
    omega arith in
    outage_known p c.args.risks.now c.requires.risks o (all_at (IsKnown p) os i o
    (subst (AllByRecursion (IsKnown p)) (sym c.in_ok-outages.ensures)
    (all_known p c.args.risks.now c.args.named_only))
    (slice_get_read os (length os) i o refl low c.index-outage.ensures))

pub loop-i-preserved : goal.loop-i-preserved
loop-i-preserved g c =
    let os = c.in_ok-outages.outages.items in
    let one = c.in_ok-outcome.outcome in
    let low : c.loop-i.i < length os = let t = c.loop-i-test.true in let e = c.len-i-end.ensures in
    omega arith in
    let next = outcomes_next c.args.plan.now c.args.risks.now os c.loop-i.i c.loop-i.outcomes.items
    one low (subst (λ o. o ≡ get_or os c.loop-i.i o) (sym c.in_ok-outcome.ensures.outage) c.index-outage.ensures)
    c.loop-i.invariant.outages c.loop-i.invariant.each
    c.in_ok-outcome.ensures.outcome in
    rw c.in_ok-push.ensures.items (record { outages = next.0; each = next.1 })

pub returns : goal.returns
returns g c =
    let os = c.in_ok-outages.outages.items in
    let all : length os ≤ c.loop-i.i = let t = c.loop-i-test.false in let e = c.len-i-end.ensures in
    omega arith in
    record {
      outages = c.loop-i.invariant.outages ∙ take_all c.loop-i.i os all ∙ c.in_ok-outages.ensures;
      each = c.loop-i.invariant.each;
    }
