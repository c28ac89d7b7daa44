use Rattle.tx_join.proofs.Common.{not, ◌∷◌, take, Puts, bar_words, has_both}
use Rattle.tx_join.proofs.AloneLines.{kept_lines}
use Rattle.tx_join.proofs.lists_alone.write_bans.Given as goal

abbrev pub invariant-loop-index : goal.invariant-loop-index
invariant-loop-index g l = Puts g.W.Sink.taken g.W.Sink.failed l.initial.sink l.sink (kept_lines (λ b. l.word ∷ bar_words l.plan b) (λ b. not (has_both l.other l.plan b.exchange b.code)) (take l.index l.plan.bars))
