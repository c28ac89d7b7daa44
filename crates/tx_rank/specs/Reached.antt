-- Which exchanges calls for a code come to. Such a call starts at an exchange that is the home of a
-- code with a range of lines, and that is not barred for the code that is keyed (is_origin_for). It
-- goes on by any group in the list of the exchange where it stands, and no further than the home of
-- the code.
use Rattle.std.specs.Prelude.{◌≡◌, ℕ, Bool, true, false, List, length, slice_get}
use Rattle.std.specs.Option.{option_map_or}
use Rattle.tx_rank.specs.Walks.{Net}
use Rattle.tx_rank.specs.Heights.{IsReached}

-- the mark of an exchange; none for an index that the plan does not have
abbrev pub is_marked : List Bool → ℕ → Bool
is_marked marks x = option_map_or (λ b. b) (slice_get marks x) false

-- The marked exchanges are those where a walk for the code ends.
pub record AreReached (n : Net) (marks : List Bool) : Type 0 where
  pub long : length marks ≡ n.exchanges
  pub reached : (x : ℕ) → is_marked marks x ≡ true → IsReached n x
  pub all : (x : ℕ) → IsReached n x → is_marked marks x ≡ true
