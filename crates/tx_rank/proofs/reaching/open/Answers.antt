use Rattle.tx_rank.proofs.Common.{◌==◌, ◌≤◌, ◌+◌, ℕ, length, take, true, sym, ap, subst, ◌∙◌, set, eqb-false, home_of, route_list, net_of}
use Rattle.tx_rank.proofs.Looks.{got_at, among_at}
use Rattle.tx_rank.proofs.Marking.{IsOpening, opening_step, opening_all}
use Rattle.tx_rank.proofs.reaching.open.Goals as goal

pub far-to-requires-clause-listed : goal.far-to-requires-clause-listed
far-to-requires-clause-listed g c =
    let groups = route_list c.args.plan.now c.args.exchange c.args.code in
    among_at groups c.loop-i.i c.index-list-i.result (got_at c.list-list.result.now groups c.loop-i.i c.index-list-i.result c.list-list.ensures.value c.loop-i-test.true c.index-list-i.is)

pub loop-i-preserved : goal.loop-i-preserved
loop-i-preserved g c =
    let p = c.args.plan.now in
    let x = c.args.exchange in
    let n = net_of p c.args.code in
    let at = got_at c.list-list.result.now (n.list x) c.loop-i.i c.index-list-i.result c.list-list.ensures.value c.loop-i-test.true c.index-list-i.is in
    let away = eqb-false x (home_of p c.args.code) (ap (λ h. x == h) (sym c.home.ensures) ∙ sym c.eq.ensures ∙ c.if-eq.false) in
    let step = opening_step n x c.loop-i.i c.args.seen.now c.loop-i.seen c.index-list-i.result c.far-to.result at c.loop-i.invariant (c.requires.seen.reached x c.requires.here) away c.far-to.ensures.leads c.far-to.ensures.within in
    subst (λ (k : ℕ). IsOpening n x (take (c.loop-i.i + 1) (n.list x)) c.args.seen.now (set c.loop-i.seen k true)) (sym c.index.ensures) step

pub returns-clause-leads : goal.returns-clause-leads
returns-clause-leads g c =
    let n = net_of c.args.plan.now c.args.code in
    let all : length (n.list c.args.exchange) ≤ c.loop-i.i = rw c.list-list.ensures.value at c.loop-i-test.false in
    λ away h y m f. (opening_all n c.args.exchange c.loop-i.i c.args.seen.now c.loop-i.seen all c.loop-i.invariant).leads h y m f
