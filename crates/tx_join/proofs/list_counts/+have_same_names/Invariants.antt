use Rattle.std.proofs.Common.{length}
use Rattle.tx_join.proofs.list_counts.+have_same_names.Given as goal

abbrev pub decreases-have_same_names : goal.decreases-have_same_names
decreases-have_same_names g l = length l.groups.now
