use Rattle.tx_audit.proofs.Common.{◌∙◌, sym, ap, arith, is_some, list_any, option_map, drop_all, IsTrueOf, has_counter, first_counter_of}
use Rattle.tx_audit.proofs.Firsts.{first_here, first_past, any_here, any_past}
use Rattle.tx_plan.proofs.Among.{among_at}
use Rattle.tx_audit.proofs.Loops.{one_of_all}
use Rattle.tx_audit.proofs.first.first_counter.Goals as goal

pub counter-requires : goal.counter-requires
counter-requires g c = one_of_all (IsTrueOf c.args.plan.now c.args.limits.limit c.args.limits.spare) c.args.findings.now c.loop-finding.finding-index c.finding-item.result c.requires c.loop-finding-test.true c.finding-item.is

pub loop-finding-preserved : goal.loop-finding-preserved
loop-finding-preserved g c =
    let p = c.args.plan.now in
    let fs = c.args.findings.now in
    let i = c.loop-finding.finding-index in
    let f = c.finding-item.result in
    let e = c.in_ok-events.ensures in
    record {
      events = c.loop-finding.invariant.events ∙ first_past p fs i f (omega arith) c.finding-item.is (sym e.events ∙ ap (option_map (λ v. v.items)) c.in-None.is);
      which = c.loop-finding.invariant.which ∙ any_past (has_counter p) fs i f (omega arith) c.finding-item.is (sym e.which ∙ ap is_some c.in-None.is);
    }

pub returns-in-Some-clause-events : goal.returns-in-Some-clause-events
returns-in-Some-clause-events g c =
    sym (c.loop-finding.invariant.events ∙ first_here c.args.plan.now c.args.findings.now c.loop-finding.finding-index c.finding-item.result c.in-Some.events.items (omega arith) c.finding-item.is
    (sym c.in_ok-events.ensures.events ∙ ap (option_map (λ v. v.items)) c.in-Some.is))

pub returns-in-Some-clause-which : goal.returns-in-Some-clause-which
returns-in-Some-clause-which g c =
    sym (c.loop-finding.invariant.which ∙ any_here (has_counter c.args.plan.now) c.args.findings.now c.loop-finding.finding-index c.finding-item.result (omega arith) c.finding-item.is
    (sym c.in_ok-events.ensures.which ∙ ap is_some c.in-Some.is))

pub returns-in-Some-clause-shows : goal.returns-in-Some-clause-shows
returns-in-Some-clause-shows g c =
    let f = c.finding-item.result in
    record {
      finding = f;
      listed = among_at c.args.findings.now c.loop-finding.finding-index f (omega arith) c.finding-item.is;
      shows = rw c.in-Some.is at c.in_ok-events.ensures.shows;
    }

pub returns-in-Some-clause-writable : goal.returns-in-Some-clause-writable
returns-in-Some-clause-writable g c = rw c.in-Some.is at c.in_ok-events.ensures.writable

pub returns-clause-events : goal.returns-clause-events
returns-clause-events g c = sym (c.loop-finding.invariant.events ∙ ap (first_counter_of c.args.plan.now) (drop_all c.loop-finding.finding-index c.args.findings.now c.loop-finding-test.false))

pub returns-clause-which : goal.returns-clause-which
returns-clause-which g c = sym (c.loop-finding.invariant.which ∙ ap (list_any (has_counter c.args.plan.now)) (drop_all c.loop-finding.finding-index c.args.findings.now c.loop-finding-test.false))
