use Rattle.tx_machine.proofs.Common.{◌≡◌, drop, first_in, first_free}
use Rattle.tx_machine.proofs.deciding.choice.Given as goal

abbrev pub invariant-loop-group : goal.invariant-loop-group
invariant-loop-group g l =
    let look = first_free (g.N.Facts.plan l.network) (g.N.Facts.state l.network) l.here in
    first_in look l.groups ≡ first_in look (drop l.group-index l.groups)
