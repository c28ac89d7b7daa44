use Rattle.tx_machine.proofs.Common.{◌<◌, ◌∙◌, ap, sym, subst, length, not, ◌==◌, Plan, Net, AreFor, net_of}
use Rattle.std.specs.FinSet as set
use Rattle.tx_machine.proofs.Marking.{fail_step}
use Rattle.tx_machine.proofs.Whole.{whole_marks}
use Rattle.tx_machine.proofs.plain.Plain.fail.Goals as goal

pub fail-requires-clause-failed : goal.fail-requires-clause-failed
fail-requires-clause-failed g c =
    let plan = ap (λ (n : Net). n.plan) (c.self.view_is ∙ c.end.ensures) in
    subst (λ k. c.args.group < k) (sym (c.self.invariant.marks_all.failed ∙ ap (λ (p : Plan). length p.groups) plan)) c.requires.group

pub fail-requires-clause-releasing : goal.fail-requires-clause-releasing
fail-requires-clause-releasing g c =
    let plan = ap (λ (n : Net). n.plan) (c.self.view_is ∙ c.end.ensures) in
    subst (λ k. c.args.group < k) (sym (c.self.invariant.marks_all.releasing ∙ ap (λ (p : Plan). length p.groups) plan)) c.requires.group

pub invariant_of-self : goal.invariant_of-self
invariant_of-self g c =
    let n = c.self.inside in
    let all = c.self.invariant.marks_all in
    whole_marks n.plan.now n.calls n.tickets n.marks n.numbers c.self.invariant c.fail.new.self (subst (AreFor (length n.plan.now.groups)) (sym c.fail.ensures) (record { failed = all.failed; blocked = all.blocked; releasing = all.releasing; out = all.out }))

pub returns-clause-step : goal.returns-clause-step
returns-clause-step g c =
    let n = c.self.inside in
    let group = c.args.group in
    let w = net_of n.plan.now n.calls.items c.fail.new.self n.faulty.items n.away.items n.numbers n.events n.tickets.items in
    fail_step c.args.self.now c.end.new.self w group c.count_on-lost.result c.count_on-lost.ensures c.end.ensures
    ((λ i. net_of n.plan.now n.calls.items (c.fail.ensures i) n.faulty.items n.away.items n.numbers n.events n.tickets.items)
    ∙ ap (λ (k : Net). record k { state = record k.state { failed = set.insert k.state.failed group; releasing = set.retain k.state.releasing (λ x. not (x.group == group)) } }) c.self.view_is)
