use Rattle.tx_rank.proofs.Common.{◌≡◌, ◌<◌, ℕ, true, is_marked}
use Rattle.tx_rank.proofs.reaching.next.Given as goal

abbrev pub invariant-loop-index : goal.invariant-loop-index
invariant-loop-index l = (x : ℕ) → x < l.index → is_marked l.seen x ≡ true → is_marked l.opened x ≡ true
