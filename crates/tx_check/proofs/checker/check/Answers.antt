use Rattle.std.proofs.Common.{refl}
use Rattle.tx_machine.proofs.Sound.{sound}
use Rattle.tx_machine.proofs.Counts.{few_routes}
use Rattle.tx_check.specs.Checks.{check_faults, ranks_for}
use Rattle.tx_check.proofs.Judging.{yes_of, no_of, certified_from, not_certified}
use Rattle.tx_check.proofs.checker.check.Goals as goal

pub returns-in-None : goal.returns-in-None
returns-in-None g c =
    let p = c.args.plan.now in
    let t = c.args.cert.now in
    let is = certified_from p t c.args.limit c.args.spare c.rules.ensures c.in-None.ensures in
    record {
      verdict = yes_of (check_faults p (ranks_for p t) c.args.limit c.args.spare) c.in-None.ensures;
      certified = λ _. is;
      yes = λ _. refl;
      sound = λ _. sound p c.rules.ensures (ranks_for p t) c.args.limit c.args.spare is;
      few_routes = λ _. few_routes p c.rules.ensures (ranks_for p t) c.args.limit c.args.spare is;
    }

pub returns-in-Some : goal.returns-in-Some
returns-in-Some g c =
    let p = c.args.plan.now in
    let t = c.args.cert.now in
    record {
      verdict = no_of (check_faults p (ranks_for p t) c.args.limit c.args.spare) c.in-Some.fault c.in-Some.ensures;
      certified = λ e. absurd (let z : ⊥ = cc in z);
      yes = λ k. absurd (not_certified p t c.args.limit c.args.spare c.in-Some.fault c.rules.ensures c.in-Some.ensures k);
      sound = λ e. absurd (let z : ⊥ = cc in z);
      few_routes = λ e. absurd (let z : ⊥ = cc in z);
    }
