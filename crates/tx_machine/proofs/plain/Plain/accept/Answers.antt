use Rattle.tx_machine.proofs.Common.{◌≡◌, sym, subst, ap, ◌∙◌, None, line_cmp, Released, Restore, Block, Unblock, CircuitOut, CircuitIn, LineFault, LineMend, LineAway, LineBack, Done, refusal, Net, accepted, net_of}
use Rattle.std.specs.FinSet as set
use Rattle.tx_plan.proofs.Named.{line_put}
use Rattle.tx_machine.proofs.Unrefused.{can_count, can_key, can_route, can_confirm, can_fail}
use Rattle.tx_machine.proofs.LineSets.{lines_without}
use Rattle.tx_machine.proofs.plain.Plain.accept.Goals as goal
use Rattle.tx_machine.proofs.plain.Plain.accept.Goals.{in-Released, in-Restore, in-Block, in-Unblock, in-CircuitOut, in-CircuitIn, in-LineFault+in_ok-push-in-LineFault, in-LineMend, in-LineAway+in_ok-push-in-LineAway, in-LineBack}

pub key-requires-clause-numbers : goal.key-requires-clause-numbers
key-requires-clause-numbers g c = can_key c.args.self.now.plan c.args.self.now.state c.in-Key.line c.in-Key.keyed (subst (λ e. refusal c.args.self.now.plan c.args.self.now.state e ≡ None) c.in-Key.is c.requires.open)

pub key-requires-clause-events : goal.key-requires-clause-events
key-requires-clause-events g c = can_count c.args.self.now.plan c.args.self.now.state c.args.event.now c.requires.open

pub route-requires-clause-events : goal.route-requires-clause-events
route-requires-clause-events g c = can_count c.args.self.now.plan c.args.self.now.state c.args.event.now c.requires.open

pub route-requires-clause-open : goal.route-requires-clause-open
route-requires-clause-open g c = can_route c.args.self.now.plan c.args.self.now.state c.in-Route.number (subst (λ e. refusal c.args.self.now.plan c.args.self.now.state e ≡ None) c.in-Route.is c.requires.open)

pub confirm-requires-clause-events : goal.confirm-requires-clause-events
confirm-requires-clause-events g c = can_count c.args.self.now.plan c.args.self.now.state c.args.event.now c.requires.open

pub confirm-requires-clause-open : goal.confirm-requires-clause-open
confirm-requires-clause-open g c = (can_confirm c.args.self.now.plan c.args.self.now.state c.in-Confirm.number (subst (λ e. refusal c.args.self.now.plan c.args.self.now.state e ≡ None) c.in-Confirm.is c.requires.open)).0

pub confirm-requires-clause-calling : goal.confirm-requires-clause-calling
confirm-requires-clause-calling g c = (can_confirm c.args.self.now.plan c.args.self.now.state c.in-Confirm.number (subst (λ e. refusal c.args.self.now.plan c.args.self.now.state e ≡ None) c.in-Confirm.is c.requires.open)).1

pub clear-requires : goal.clear-requires
clear-requires g c = can_count c.args.self.now.plan c.args.self.now.state c.args.event.now c.requires.open

pub fail-requires-clause-events : goal.fail-requires-clause-events
fail-requires-clause-events g c = can_count c.args.self.now.plan c.args.self.now.state c.args.event.now c.requires.open

pub fail-requires-clause-group : goal.fail-requires-clause-group
fail-requires-clause-group g c = can_fail c.args.self.now.plan c.args.self.now.state c.in-Fail.group (subst (λ e. refusal c.args.self.now.plan c.args.self.now.state e ≡ None) c.in-Fail.is c.requires.open)

pub returns-clause-plan : goal.returns-clause-plan
returns-clause-plan g c = elim c.match-event.branch [
  | in-Released w ↦ ap (λ (n : Net). n.plan) w.self-is ∙ ap (λ (n : Net). n.plan) w.self.view_is
  | in-Restore w ↦ ap (λ (n : Net). n.plan) w.self-is ∙ ap (λ (n : Net). n.plan) w.self-in-Restore.view_is
  | in-Block w ↦ ap (λ (n : Net). n.plan) w.self-is ∙ ap (λ (n : Net). n.plan) w.self-in-Block.view_is
  | in-Unblock w ↦ ap (λ (n : Net). n.plan) w.self-is ∙ ap (λ (n : Net). n.plan) w.self-in-Unblock.view_is
  | in-CircuitOut w ↦ ap (λ (n : Net). n.plan) w.self-is ∙ ap (λ (n : Net). n.plan) w.self-in-CircuitOut.view_is
  | in-CircuitIn w ↦ ap (λ (n : Net). n.plan) w.self-is ∙ ap (λ (n : Net). n.plan) w.self-in-CircuitIn.view_is
  | in-LineFault+in_ok-push-in-LineFault w ↦ ap (λ (n : Net). n.plan) w.self-is ∙ ap (λ (n : Net). n.plan) w.self-in-LineFault.view_is
  | in-LineMend w ↦ ap (λ (n : Net). n.plan) w.self-is ∙ ap (λ (n : Net). n.plan) w.self-in-LineMend.view_is
  | in-LineAway+in_ok-push-in-LineAway w ↦ ap (λ (n : Net). n.plan) w.self-is ∙ ap (λ (n : Net). n.plan) w.self-in-LineAway.view_is
  | in-LineBack w ↦ ap (λ (n : Net). n.plan) w.self-is ∙ ap (λ (n : Net). n.plan) w.self-in-LineBack.view_is
]

pub returns-clause-ok : goal.returns-clause-ok
returns-clause-ok g c =
    let v = c.args.self.now in
    elim c.match-event.branch [
      | in-Released w ↦
          let k = w.self.inside in
          let s = (net_of k.plan.now k.calls.items k.marks k.faulty.items k.away.items k.numbers k.events k.tickets.items).state in
          ap (accepted v.plan v.state) w.in-Released.is ∙ ap (λ (n : Net). accepted n.plan n.state (Released w.in-Released.circuit)) (sym w.self.view_is)
          ∙ (λ i. (Done, record s { releasing = (sym w.clear-in-Released.ensures i).marked })) ∙ ap (λ (n : Net). (Done, n.state)) (sym w.self-is)
      | in-Restore w ↦
          let k = w.self-in-Restore.inside in
          let s = (net_of k.plan.now k.calls.items k.marks k.faulty.items k.away.items k.numbers k.events k.tickets.items).state in
          ap (accepted v.plan v.state) w.in-Restore.is ∙ ap (λ (n : Net). accepted n.plan n.state (Restore w.in-Restore.group)) (sym w.self-in-Restore.view_is)
          ∙ (λ i. (Done, record s { failed = (sym w.clear-in-Restore.ensures i).marked })) ∙ ap (λ (n : Net). (Done, n.state)) (sym w.self-is)
      | in-Block w ↦
          let k = w.self-in-Block.inside in
          let s = (net_of k.plan.now k.calls.items k.marks k.faulty.items k.away.items k.numbers k.events k.tickets.items).state in
          ap (accepted v.plan v.state) w.in-Block.is ∙ ap (λ (n : Net). accepted n.plan n.state (Block w.in-Block.group)) (sym w.self-in-Block.view_is)
          ∙ (λ i. (Done, record s { blocked = (sym w.set.ensures i).marked })) ∙ ap (λ (n : Net). (Done, n.state)) (sym w.self-is)
      | in-Unblock w ↦
          let k = w.self-in-Unblock.inside in
          let s = (net_of k.plan.now k.calls.items k.marks k.faulty.items k.away.items k.numbers k.events k.tickets.items).state in
          ap (accepted v.plan v.state) w.in-Unblock.is ∙ ap (λ (n : Net). accepted n.plan n.state (Unblock w.in-Unblock.group)) (sym w.self-in-Unblock.view_is)
          ∙ (λ i. (Done, record s { blocked = (sym w.clear-in-Unblock.ensures i).marked })) ∙ ap (λ (n : Net). (Done, n.state)) (sym w.self-is)
      | in-CircuitOut w ↦
          let k = w.self-in-CircuitOut.inside in
          let s = (net_of k.plan.now k.calls.items k.marks k.faulty.items k.away.items k.numbers k.events k.tickets.items).state in
          ap (accepted v.plan v.state) w.in-CircuitOut.is ∙ ap (λ (n : Net). accepted n.plan n.state (CircuitOut w.in-CircuitOut.circuit)) (sym w.self-in-CircuitOut.view_is)
          ∙ (λ i. (Done, record s { out = (sym w.set-in-CircuitOut.ensures i).marked })) ∙ ap (λ (n : Net). (Done, n.state)) (sym w.self-is)
      | in-CircuitIn w ↦
          let k = w.self-in-CircuitIn.inside in
          let s = (net_of k.plan.now k.calls.items k.marks k.faulty.items k.away.items k.numbers k.events k.tickets.items).state in
          ap (accepted v.plan v.state) w.in-CircuitIn.is ∙ ap (λ (n : Net). accepted n.plan n.state (CircuitIn w.in-CircuitIn.circuit)) (sym w.self-in-CircuitIn.view_is)
          ∙ (λ i. (Done, record s { out = (sym w.clear-in-CircuitIn.ensures i).marked })) ∙ ap (λ (n : Net). (Done, n.state)) (sym w.self-is)
      | in-LineFault+in_ok-push-in-LineFault w ↦
          let k = w.self-in-LineFault.inside in
          let s = (net_of k.plan.now k.calls.items k.marks k.faulty.items k.away.items k.numbers k.events k.tickets.items).state in
          ap (accepted v.plan v.state) w.in-LineFault.is ∙ ap (λ (n : Net). accepted n.plan n.state (LineFault w.in-LineFault.line)) (sym w.self-in-LineFault.view_is)
          ∙ (λ i. (Done, record s { faulty = sym (ap (λ ls. set.from_list {R = line_cmp} ls) w.in_ok-push-in-LineFault.ensures.items ∙ line_put k.faulty.items w.in-LineFault.line) i })) ∙ ap (λ (n : Net). (Done, n.state)) (sym w.self-is)
      | in-LineMend w ↦
          let k = w.self-in-LineMend.inside in
          let s = (net_of k.plan.now k.calls.items k.marks k.faulty.items k.away.items k.numbers k.events k.tickets.items).state in
          ap (accepted v.plan v.state) w.in-LineMend.is ∙ ap (λ (n : Net). accepted n.plan n.state (LineMend w.in-LineMend.line)) (sym w.self-in-LineMend.view_is)
          ∙ (λ i. (Done, record s { faulty = sym (ap (λ ls. set.from_list {R = line_cmp} ls) w.take_line.ensures ∙ lines_without k.faulty.items w.in-LineMend.line) i })) ∙ ap (λ (n : Net). (Done, n.state)) (sym w.self-is)
      | in-LineAway+in_ok-push-in-LineAway w ↦
          let k = w.self-in-LineAway.inside in
          let s = (net_of k.plan.now k.calls.items k.marks k.faulty.items k.away.items k.numbers k.events k.tickets.items).state in
          ap (accepted v.plan v.state) w.in-LineAway.is ∙ ap (λ (n : Net). accepted n.plan n.state (LineAway w.in-LineAway.line)) (sym w.self-in-LineAway.view_is)
          ∙ (λ i. (Done, record s { away = sym (ap (λ ls. set.from_list {R = line_cmp} ls) w.in_ok-push-in-LineAway.ensures.items ∙ line_put k.away.items w.in-LineAway.line) i })) ∙ ap (λ (n : Net). (Done, n.state)) (sym w.self-is)
      | in-LineBack w ↦
          let k = w.self-in-LineBack.inside in
          let s = (net_of k.plan.now k.calls.items k.marks k.faulty.items k.away.items k.numbers k.events k.tickets.items).state in
          ap (accepted v.plan v.state) w.in-LineBack.is ∙ ap (λ (n : Net). accepted n.plan n.state (LineBack w.in-LineBack.line)) (sym w.self-in-LineBack.view_is)
          ∙ (λ i. (Done, record s { away = sym (ap (λ ls. set.from_list {R = line_cmp} ls) w.take_line-in-LineBack.ensures ∙ lines_without k.away.items w.in-LineBack.line) i })) ∙ ap (λ (n : Net). (Done, n.state)) (sym w.self-is)
    ]
