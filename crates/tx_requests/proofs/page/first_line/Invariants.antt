use Rattle.std.proofs.Common.{◌≡◌, ◌++◌, take, drop}
use Rattle.tx_text.specs.Words.{before}
use Rattle.tx_requests.specs.Page.{is_line_end}
use Rattle.tx_requests.proofs.page.first_line.Given as goal

abbrev pub invariant-loop-i : goal.invariant-loop-i
invariant-loop-i l = before is_line_end l.text ≡ take l.i l.text ++ before is_line_end (drop l.i l.text)
