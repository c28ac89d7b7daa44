use Rattle.tx_check.proofs.Common.{◌≡◌, flat_map, range_with_len, ranks_for, at_exchanges, too_short_at, target_unranked_at, not_lower_at, firsts_of}
use Rattle.tx_check.proofs.lists.list_faults.Given as goal

abbrev pub invariant-loop-index : goal.invariant-loop-index
invariant-loop-index g l = l.firsts ≡ firsts_of (flat_map (λ c. at_exchanges l.plan (too_short_at l.plan (ranks_for l.plan l.cert) l.spare c)) (range_with_len 0 l.index)) (flat_map (λ c. at_exchanges l.plan (target_unranked_at l.plan (ranks_for l.plan l.cert) c)) (range_with_len 0 l.index)) (flat_map (λ c. at_exchanges l.plan (not_lower_at l.plan (ranks_for l.plan l.cert) c)) (range_with_len 0 l.index))
