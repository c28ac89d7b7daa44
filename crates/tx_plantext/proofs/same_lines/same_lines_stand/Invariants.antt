use Rattle.tx_plantext.proofs.Common.{length, filter, StandAmong, SameLinesStand, says_too}
use Rattle.tx_plantext.proofs.same_lines.same_lines_stand.Given as goal

-- if those of the lines that are left stand among what is left, all do
abbrev pub invariant-lines : goal.invariant-lines
invariant-lines g l = StandAmong (filter (says_too l.plan) l.lines) l.left → SameLinesStand l.text l.plan l.revised

abbrev pub decreases-lines : goal.decreases-lines
decreases-lines g l = length l.lines
