use Rattle.tx_fill.proofs.Common.{◌≡◌, ◌+◌, ◌*◌, ◌^◌, ◌≤◌, slice_get, lines_of}
use Rattle.tx_fill.proofs.LinesAt.{lines_from}
use Rattle.tx_fill.proofs.call_lines.line_at.Given as goal

abbrev pub invariant-loop-i : goal.invariant-loop-i
invariant-loop-i g l = record {
  line : slice_get (lines_from l.plan l.whose l.i) l.left ≡ slice_get (lines_of l.plan l.whose) l.index;
  few : l.index ≤ l.left + 10 ^ 9 * l.i;
}
