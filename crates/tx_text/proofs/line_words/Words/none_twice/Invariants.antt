use Rattle.std.proofs.Common.{◌≡◌, length}
use Rattle.tx_text.specs.Words.{none_twice}
use Rattle.tx_text.proofs.line_words.Words.none_twice.Given as goal

abbrev pub invariant-words : goal.invariant-words
invariant-words l = none_twice l.initial.self ≡ none_twice l.self

abbrev pub decreases-words : goal.decreases-words
decreases-words l = length l.self
