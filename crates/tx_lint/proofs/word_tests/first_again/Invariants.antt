use Rattle.std.proofs.Common.{◌≡◌, length}
use Rattle.tx_lint.specs.AtFault.{first_again}
use Rattle.tx_lint.proofs.word_tests.first_again.Given as goal

abbrev pub invariant-loop-word : goal.invariant-loop-word
invariant-loop-word l = first_again l.initial.words ≡ first_again l.words

abbrev pub decreases-loop-word : goal.decreases-loop-word
decreases-loop-word l = length l.words
