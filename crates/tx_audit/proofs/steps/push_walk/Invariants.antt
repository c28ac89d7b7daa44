use Rattle.tx_audit.proofs.Common.{◌≡◌, ◌++◌, drop, walk_events}
use Rattle.tx_audit.proofs.steps.push_walk.Given as goal

abbrev pub invariant-loop-step : goal.invariant-loop-step
invariant-loop-step g l = l.initial.events.items ++ walk_events l.plan l.code l.fn.start l.steps ≡ l.events.items ++ walk_events l.plan l.code l.at (drop l.step-index l.steps)
