use Rattle.tx_rank.proofs.Common.{◌≤◌, length, vec_capacity, IsRankedBelow, ranks_of}
use Rattle.tx_rank.specs.Grades.{AreRanksOfGrades}
use Rattle.tx_rank.proofs.Graded.{IsGradedBelow}
use Rattle.tx_rank.proofs.grading.grade.Given as goal

abbrev pub invariant-loop-index : goal.invariant-loop-index
invariant-loop-index g l = record {
  ranked : IsRankedBelow l.plan 255 0 l.index l.cert l.findings.items;
  graded : IsGradedBelow l.plan l.index l.together l.codes.items;
  heights : AreRanksOfGrades l.plan (ranks_of l.cert) l.codes.items;
  room : length l.plan.codes ≤ vec_capacity l.codes;
}
