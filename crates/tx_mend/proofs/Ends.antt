-- The ranks across groups.
use Rattle.tx_mend.proofs.Common.{◌≡◌, ℕ, List, length, get_or, Option, Some, None, sym, ap, ◌∙◌, arith, option_and_then, Plan, IsPlan, other_end, rank_across, rank_list, end_within}
use Rattle.tx_mend.proofs.Placed.{value_at}

-- the rank across a group, read from a list of ranks
pub across_at : (p : Plan) → IsPlan p → (of : ℕ → Option ℕ) (ranks : List (Option ℕ)) → ranks ≡ rank_list p of → (g x to i : ℕ) → other_end p g x ≡ Some to → i ≡ to → get_or ranks i None ≡ rank_across p of x g
across_at p ok of ranks e g x to i h k =
    let w = end_within p ok g x to h in
    value_at of (length p.exchanges) i None ranks e (omega arith) ∙ ap of k ∙ sym (ap (option_and_then of) h)
