use Rattle.tx_trace.proofs.Common.{◌≡◌, ◌++◌, List, Some, map, subst, Pair, calls_of}
use Rattle.std.specs.Prelude.{IfOk}
use Rattle.tx_trace.proofs.Changing.{since_is, none_since}
use Rattle.tx_trace.proofs.way_changes.add_at.Goals as goal

pub returns-in-Some-clause-calls : goal.returns-in-Some-clause-calls
returns-in-Some-clause-calls g c =
    subst (λ (l : List (Pair × Pair)). IfOk c.add.result (λ x. map calls_of c.add.new.found.items ≡ map calls_of c.args.found.now.items ++ l))
    (since_is c.args.plan.now c.args.old.now c.args.code c.args.exchange (Some _) c.in-Some.ensures.calls) c.add.ensures.calls

pub returns-in-None-clause-calls : goal.returns-in-None-clause-calls
returns-in-None-clause-calls g c = none_since c.args.plan.now c.args.old.now c.args.code c.args.exchange _ c.in-None.ensures.calls
