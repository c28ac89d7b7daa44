-- The faults of one route list.
use Rattle.tx_check.proofs.Common.{find, option_map, ◌≡◌, ℕ, nat_le, List, length, Option, Some, is_none, sym, ap, ◌∙◌, Plan, Ranks, route_list, CheckFault, Short, TargetUnranked, NotLower, rank_away, rank_beyond, is_at_least, fault_if, foremost, too_short_at, target_unranked_at, not_lower_at, firsts_of}
use Rattle.tx_check.proofs.Finding.{first_member}

pub pair_firsts : (p : Plan) (ranks : Ranks) (spare c x rank : ℕ) (gs : List ℕ) (u v : Option ℕ) (a b d : Option CheckFault) → rank_away p ranks c x ≡ Some rank → gs ≡ route_list p x c
    → u ≡ find (λ g. is_none (rank_beyond p ranks c x g)) gs → v ≡ find (λ g. is_at_least (rank_beyond p ranks c x g) rank) gs
    → a ≡ foremost (fault_if (nat_le (length gs) spare) (Short c x)) → b ≡ option_map (λ g. TargetUnranked c x g) u → d ≡ option_map (λ g. NotLower c x g) v
    → record { short = a; unranked = b; not_lower = d } ≡ firsts_of (too_short_at p ranks spare c x) (target_unranked_at p ranks c x) (not_lower_at p ranks c x)
pair_firsts p ranks spare c x rank gs u v a b d away is hu hv ha hb hd =
    let two = hb ∙ ap (option_map (λ g. TargetUnranked c x g)) hu ∙ sym (first_member (λ g. is_none (rank_beyond p ranks c x g)) (λ g. TargetUnranked c x g) gs) in
    let three = hd ∙ ap (option_map (λ g. NotLower c x g)) hv ∙ sym (first_member (λ g. is_at_least (rank_beyond p ranks c x g) rank) (λ g. NotLower c x g) gs) in
    rw (away, ← is) (λ i. record { short = ha i; unranked = two i; not_lower = three i })
