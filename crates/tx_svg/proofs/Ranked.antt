-- The greatest rank of one exchange more.
use Rattle.std.proofs.Common.{◌≡◌, ℕ, ◌+◌, Option, ap, ◌∙◌, map, [], ◌∷◌, arith}
use Rattle.std.specs.Prelude.{max, unwrap_or}
use Rattle.std.specs.List.{fold, range_with_len}
use Rattle.std.proofs.lemmas.List.FromFn.{map-range_with_len_more}
use Rattle.std.proofs.lemmas.List.Sums.{fold-append}
use Rattle.tx_svg.specs.ListTexts.{greatest_rank}

pub greatest_more : (ranks : ℕ → Option ℕ) (n : ℕ) → greatest_rank ranks (n + 1) ≡ max (greatest_rank ranks n) (unwrap_or (ranks n) 0)
greatest_more ranks n =
    let rank : ℕ → ℕ = λ x. unwrap_or (ranks x) 0 in
    ap (fold max 0) (map-range_with_len_more rank 0 n n (omega arith)) ∙ fold-append max 0 (map rank (range_with_len 0 n)) (rank n ∷ [])
