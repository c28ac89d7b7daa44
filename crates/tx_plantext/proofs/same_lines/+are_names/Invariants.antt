use Rattle.std.proofs.Common.{length}
use Rattle.tx_plantext.proofs.same_lines.+are_names.Given as goal

abbrev pub decreases-are_names : goal.decreases-are_names
decreases-are_names g l = length l.groups.now
