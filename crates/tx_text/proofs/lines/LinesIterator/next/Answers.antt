use Rattle.std.proofs.Common.{rules}
use Rattle.tx_text.proofs.lines.LinesIterator.next.Goals as goal

pub invariant_of-self : goal.invariant_of-self
invariant_of-self c = search rules

pub returns-clause-steps : goal.returns-clause-steps
returns-clause-steps c = search rules

pub returns-clause-goes : goal.returns-clause-goes
returns-clause-goes c = search rules
