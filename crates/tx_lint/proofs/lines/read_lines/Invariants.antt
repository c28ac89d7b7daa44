use Rattle.tx_lint.proofs.Common.{length, progress_held, faults_held}
use Rattle.tx_lint.proofs.AllRead.{SoFar}
use Rattle.tx_lint.proofs.lines.read_lines.Given as goal

abbrev pub invariant-loop-rest : goal.invariant-loop-rest
invariant-loop-rest g l =
    SoFar l.text (faults_held l.reading) (progress_held l.reading) l.number l.rest

abbrev pub decreases-loop-rest : goal.decreases-loop-rest
decreases-loop-rest g l = length l.rest
