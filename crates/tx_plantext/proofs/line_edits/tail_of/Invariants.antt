use Rattle.std.proofs.Common.{length}
use Rattle.tx_plantext.proofs.line_edits.tail_of.Given as goal

abbrev pub decreases-words : goal.decreases-words
decreases-words l = length l.words
