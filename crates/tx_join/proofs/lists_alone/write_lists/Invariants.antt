use Rattle.tx_join.proofs.Common.{not, ◌∷◌, take, Puts, route_words, has_both}
use Rattle.tx_join.proofs.AloneLines.{kept_lines}
use Rattle.tx_join.proofs.lists_alone.write_lists.Given as goal

abbrev pub invariant-loop-index : goal.invariant-loop-index
invariant-loop-index g l = Puts g.W.Sink.taken g.W.Sink.failed l.initial.sink l.sink (kept_lines (λ r. l.word ∷ route_words l.plan r) (λ r. not (has_both l.other l.plan r.exchange r.code)) (take l.index l.plan.routes))
