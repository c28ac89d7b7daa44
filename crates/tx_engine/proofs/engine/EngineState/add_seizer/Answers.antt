use Rattle.tx_engine.proofs.Common.{[], ◌∷◌, sym, ◌∙◌, calls_in}
use Rattle.std.proofs.lemmas.List.{append-nil}
use Rattle.tx_engine.proofs.Users.{no_seizer}
use Rattle.tx_engine.proofs.engine.EngineState.add_seizer.Goals as goal

pub returns-then-is_seized-clause-added : goal.returns-then-is_seized-clause-added
returns-then-is_seized-clause-added g c = (c.seizer.result ∷ [], c.push.ensures.items, c.seizer.ensures)

pub returns-else-is_seized-clause-added : goal.returns-else-is_seized-clause-added
returns-else-is_seized-clause-added g c =
    let n = c.args.self.now in
    ([], sym (append-nil c.args.users.now.items), no_seizer n.plan.now (calls_in n.calls) n.circuits.releasing n.numbers c.requires.sound.together.inv c.args.circuit.now n.circuits c.requires.sound.together.used c.args.exchange (sym c.is_seized.ensures ∙ c.if-is_seized.false))
