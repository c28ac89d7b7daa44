use Rattle.tx_machine.proofs.Common.{◌≡◌, sym, subst, arith, map, length, [], Among, call_seen, AreFor, AreHeld}
use Rattle.tx_machine.proofs.Holding.{held_none}
use Rattle.tx_machine.proofs.plain.Plain.starting_at.Goals as goal

pub invariant_of-result : goal.invariant_of-result
invariant_of-result g c =
    let p = c.args.plan.now in
    let none : c.new-2.result.items ≡ [] = c.new-2.ensures.items in
    let all = c.groups-groups.ensures.count in
    record {
      rules = c.groups-groups.ensures.rules;
      room = (let a = c.new-2.ensures.len in let b = c.new-5.ensures.len in omega arith);
      held = subst (λ l. AreHeld (length p.groups) c.args.numbers (map call_seen l)) (sym none) (held_none (length p.groups) c.args.numbers);
      hops = λ d m. absurd (subst (λ l. Among d l) none m);
      marks_all = subst (AreFor (length p.groups)) (sym c.in_ok-marks.ensures) (record { failed = all; blocked = all; releasing = all; out = all });
    }
