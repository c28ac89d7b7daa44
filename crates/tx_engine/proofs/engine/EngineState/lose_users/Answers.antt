use Rattle.tx_engine.proofs.Common.{sym, subst, uses_group, calls_in, AreNumbersOf}
use Rattle.tx_engine.proofs.Users.{numbers_along}
use Rattle.tx_engine.proofs.Lost.{permuted, permuted_back}
use Rattle.tx_engine.proofs.engine.EngineState.lose_users.Goals as goal

pub lose-requires-clause-users : goal.lose-requires-clause-users
lose-requires-clause-users g c =
    let n = c.args.self.now in
    let old = c.as_mut_slice-numbers.result.now in
    let new = c.sort_unstable.new.self in
    numbers_along (uses_group c.args.group) (calls_in n.calls) old new (permuted old new c.sort_unstable.ensures.permutation) (permuted_back old new c.sort_unstable.ensures.permutation)
    (subst (AreNumbersOf (uses_group c.args.group) (calls_in n.calls)) (sym c.as_mut_slice-numbers.ensures.value) c.users_of-users.ensures)
