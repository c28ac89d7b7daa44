use Rattle.tx_check.proofs.Common.{◌≡◌, flat_map, range_with_len, ranks_for, too_short_at, target_unranked_at, not_lower_at, firsts_of}
use Rattle.tx_check.proofs.lists.code_faults.Given as goal

abbrev pub invariant-loop-index : goal.invariant-loop-index
invariant-loop-index g l = l.firsts ≡ firsts_of (flat_map (too_short_at l.plan (ranks_for l.plan l.cert) l.spare l.code) (range_with_len 0 l.index)) (flat_map (target_unranked_at l.plan (ranks_for l.plan l.cert) l.code) (range_with_len 0 l.index)) (flat_map (not_lower_at l.plan (ranks_for l.plan l.cert) l.code) (range_with_len 0 l.index))
