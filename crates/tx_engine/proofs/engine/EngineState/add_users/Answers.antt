use Rattle.tx_engine.proofs.Common.{ℕ, [], ◌∷◌, ◌++◌, sym, ap, subst, ◌∙◌, seizes_from, AreNumbersOf, calls_in}
use Rattle.std.proofs.lemmas.List.{append_assoc}
use Rattle.tx_engine.proofs.Users.{by_seizures}
use Rattle.tx_engine.proofs.engine.EngineState.add_users.Goals as goal

pub returns-then-is_carried-clause-added : goal.returns-then-is_carried-clause-added
returns-then-is_carried-clause-added g c = (c.carrier.result ∷ [], c.push.ensures.items, c.carrier.ensures)

pub returns-clause-added : goal.returns-clause-added
returns-clause-added g c =
    let n = c.args.self.now in
    let x = c.args.circuit.now in
    let one = c.add_seizer.ensures.added in
    let two = c.add_seizer-2.ensures.added in (
      one.0 ++ two.0,
      two.1 ∙ ap (λ l. l ++ two.0) one.1 ∙ append_assoc c.args.users.now.items one.0 two.0,
      by_seizures n.plan.now (calls_in n.calls) n.circuits.releasing n.numbers c.requires.sound.together.inv x n.circuits c.requires.sound.together.used (sym c.is_carried.ensures ∙ c.if-is_carried.false) one.0 two.0
          (subst (λ (z : ℕ × ℕ). AreNumbersOf (λ d. seizes_from n.plan.now d x z.0) (calls_in n.calls) one.0) c.ends-one.ensures one.2)
          (subst (λ (z : ℕ × ℕ). AreNumbersOf (λ d. seizes_from n.plan.now d x z.1) (calls_in n.calls) two.0) c.ends-one.ensures two.2),
    )
