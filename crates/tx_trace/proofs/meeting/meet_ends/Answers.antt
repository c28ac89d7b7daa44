use Rattle.tx_trace.proofs.Common.{◌≤◌, ◌==◌, length, refl, sym, ap, ◌∙◌, eqb-true, eqb-false, home_of, route_list}
use Rattle.tx_rank.proofs.Looks.{got_at, among_at}
use Rattle.tx_trace.proofs.Rounds.{met-next, met-ends, met-home}
use Rattle.tx_trace.proofs.meeting.meet_ends.Goals as goal

pub far-to-requires-clause-listed : goal.far-to-requires-clause-listed
far-to-requires-clause-listed g c =
    let groups = route_list c.args.plan.now c.args.exchange c.args.code in
    among_at groups c.loop-i.i c.index-list-i.result (got_at c.list-list.result.now groups c.loop-i.i c.index-list-i.result c.list-list.ensures.value c.loop-i-test.true c.index-list-i.is)

pub loop-i-init : goal.loop-i-init
loop-i-init g c = record { marked = c.requires.marks; so_far = refl }

pub loop-i-preserved : goal.loop-i-preserved
loop-i-preserved g c =
    let p = c.args.plan.now in
    let groups = route_list p c.args.exchange c.args.code in
    let at = got_at c.list-list.result.now groups c.loop-i.i c.index-list-i.result c.list-list.ensures.value c.loop-i-test.true c.index-list-i.is in
    record {
      marked = c.in_ok-meet.ensures.marks;
      so_far = met-next p c.args.code c.args.exchange c.loop-i.i c.index-list-i.result c.far-to.result c.args.met.now.items c.loop-i.met.items c.meet.new.met.items at c.far-to.ensures.leads c.loop-i.invariant.so_far c.in_ok-meet.ensures.met;
    }

pub returns-clause-met : goal.returns-clause-met
returns-clause-met g c =
    let p = c.args.plan.now in
    let x = c.args.exchange in
    let away = eqb-false x (home_of p c.args.code) (ap (λ h. x == h) (sym c.home.ensures) ∙ sym c.eq.ensures ∙ c.if-eq.false) in
    let all : length (route_list p x c.args.code) ≤ c.loop-i.i = rw c.list-list.ensures.value at c.loop-i-test.false in
    met-ends p c.args.code x c.loop-i.i c.args.met.now.items c.loop-i.met.items away all c.loop-i.invariant.so_far

pub returns-then-eq-clause-met : goal.returns-then-eq-clause-met
returns-then-eq-clause-met g c =
    let p = c.args.plan.now in
    let x = c.args.exchange in
    met-home p c.args.code x c.args.met.now.items (eqb-true x (home_of p c.args.code) (ap (λ h. x == h) (sym c.home.ensures) ∙ sym c.eq.ensures ∙ c.if-eq.true))
