use Rattle.std.proofs.Common.{false}
use Rattle.tx_page_change.proofs.Common.{◌≡◌, length, take, range_with_len, before_of, after_of}
use Rattle.std.specs.List.{list_any}
use Rattle.tx_page_change.specs.CrewTexts.{has_work_for}
use Rattle.tx_page_change.proofs.crews.has_work.Given as goal

abbrev pub invariant-loop-index : goal.invariant-loop-index
invariant-loop-index g l = list_any (has_work_for (before_of l.between) (after_of l.between) l.exchange) (take l.index (range_with_len 0 (length l.plan.codes))) ≡ false
