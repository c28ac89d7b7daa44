use Rattle.tx_files.proofs.Common.{None, Some, refl}
use Rattle.tx_files.proofs.Uncalled.{uncalled}
use Rattle.tx_files.proofs.stopped.plan_in.Goals as goal

pub returns-in-Some-clause-calls : goal.returns-in-Some-clause-calls
returns-in-Some-clause-calls g c = uncalled g.R.Source.called c.args.done.now

pub returns-in_err-plan_stopped-clause-calls : goal.returns-in_err-plan_stopped-clause-calls
returns-in_err-plan_stopped-clause-calls g c = uncalled g.R.Source.called c.args.done.now

pub returns-then-not-named-clause-calls : goal.returns-then-not-named-clause-calls
returns-then-not-named-clause-calls g c = uncalled g.R.Source.called c.args.done.now

pub returns-then-not-named-clause-plan : goal.returns-then-not-named-clause-plan
returns-then-not-named-clause-plan g c =
    let there = rw c.from.ensures at c.in_default.ensures.there in
    (there, None, rw c.if-not-named.true (refl, refl), c.in_ok-plan_stopped.ensures.plan)

pub returns-clause-plan : goal.returns-clause-plan
returns-clause-plan g c =
    let there = rw c.from.ensures at c.in_default.ensures.there in (
      there,
      Some c.in_ok-pairs.pairs.items,
      rw c.if-not-named.false c.in_ok-pairs.ensures.answer,
      rw c.deref.ensures.value at c.in_ok-plan_stopped-2.ensures.plan,
    )
