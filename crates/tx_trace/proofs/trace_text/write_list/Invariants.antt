use Rattle.tx_trace.proofs.Common.{ℕ, take, flat_map, enumerate_from, Puts, place_line, rank_told}
use Rattle.tx_trace.proofs.trace_text.write_list.Given as goal

abbrev pub invariant-loop-i : goal.invariant-loop-i
invariant-loop-i g l =
    Puts g.W.Sink.taken g.W.Sink.failed l.initial.sink l.sink (flat_map (λ (e : ℕ × ℕ). place_line l.plan (rank_told l.trace.ranks l.trace.code) l.exchange e.0 e.1) (take l.i (enumerate_from 1 l.list)))
