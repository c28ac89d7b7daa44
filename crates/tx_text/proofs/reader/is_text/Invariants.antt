use Rattle.tx_text.proofs.Common.{◌≡◌, ◌≤◌, ◌-◌, true, length, take, list_all, is_text_byte}
use Rattle.tx_text.proofs.reader.is_text.Given as goal

abbrev pub invariant-loop-done : goal.invariant-loop-done
invariant-loop-done l = (list_all is_text_byte (take l.done l.line) ≡ true) × (l.done ≤ length l.line)

abbrev pub decreases-loop-done : goal.decreases-loop-done
decreases-loop-done l = length l.line - l.done
