use Rattle.std.proofs.Common.{◌≡◌}
use Rattle.tx_join.specs.Contradictions.{first_declared, line_declaring}
use Rattle.tx_join.proofs.contradiction.line_declaring.Given as goal

abbrev pub invariant-loop-item : goal.invariant-loop-item
invariant-loop-item l = first_declared l.word l.name l.item-iterator ≡ line_declaring l.word l.name l.text
