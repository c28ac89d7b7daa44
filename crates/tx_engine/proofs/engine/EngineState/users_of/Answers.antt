use Rattle.tx_engine.proofs.Common.{◌≡◌, ◌+◌, length, sym, ap, subst, ◌∙◌, arith, AreNumbersOf, uses_up_to, calls_in}
use Rattle.tx_engine.proofs.Users.{none_up_to, more_up_to, all_up_to}
use Rattle.tx_engine.proofs.engine.EngineState.users_of.Goals as goal

pub loop-number-init : goal.loop-number-init
loop-number-init g c =
    let n = c.args.self.now in
    record {
      numbers = subst (AreNumbersOf (uses_up_to c.args.group 0) (calls_in n.calls)) (sym c.new-users.ensures) (none_up_to n.plan.now (calls_in n.calls) n.circuits.releasing n.numbers c.requires.together.inv c.args.group);
      len = omega (arith, ap length c.new-users.ensures);
    }

pub loop-number-preserved : goal.loop-number-preserved
loop-number-preserved g c =
    let n = c.args.self.now in
    let a = c.add_users.ensures.added in
    record {
      numbers = subst (AreNumbersOf (uses_up_to c.args.group (c.loop-number.number + 1)) (calls_in n.calls)) (sym a.1)
          (more_up_to n.plan.now (calls_in n.calls) n.circuits.releasing n.numbers c.requires.together.inv c.args.group c.loop-number.number c.loop-number.users.items a.0 c.loop-number.invariant.numbers a.2);
      len = omega (arith, c.add_users.ensures.len, c.loop-number.invariant.len);
    }

pub returns : goal.returns
returns g c =
    let n = c.args.self.now in
    let over = c.loop-number-test.false in
    let within = c.loop-number.auto.number-end in
    let last : c.loop-number.number ≡ c.group_count-number-end.result = omega arith in
    all_up_to n.plan.now (calls_in n.calls) n.circuits.releasing n.numbers c.requires.together.inv c.args.group c.loop-number.users.items
    (subst (λ k. AreNumbersOf (uses_up_to c.args.group k) (calls_in n.calls) c.loop-number.users.items) (last ∙ c.group_count-number-end.ensures.value) c.loop-number.invariant.numbers)
