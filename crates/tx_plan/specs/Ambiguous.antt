-- Codes of which one begins another, so that keyed figures do not say where the code ends (ITU-T
-- F.69).
use Rattle.std.specs.Prelude.{ℕ, Bool, ◌&&◌, nat_lt, if◌then◌else◌, List, [], ◌∷◌, length, map, filter, Option, Some, None}
use Rattle.std.specs.List.{enumerate_from, flat_map}
use Rattle.std.specs.Option.{option_map}
use Rattle.std.specs.Ordering.{ordering_then, is_le, nat_cmp}
use Rattle.std.specs.declared.cmp.Ordering.{Ordering}
use Rattle.std.specs.Cmp.Lexicographic.{slice_cmp}
use Rattle.tx_plan.specs.Plan.{Code}
use Rattle.tx_plan.specs.Codes.{is_prefix}

-- a code and another one, each with its index
pub record CodePair : Type 0 where
  pub first : ℕ × Code
  pub second : ℕ × Code

-- the first code is shorter than the second, and begins it
abbrev pub is_ambiguous : CodePair → Bool
is_ambiguous p = is_prefix p.first.1.figures p.second.1.figures
    && nat_lt (length p.first.1.figures) (length p.second.1.figures)

-- all pairs of codes
abbrev pub code_pairs : List Code → List CodePair
code_pairs codes = flat_map (λ c. map (λ d. record { first = c; second = d })
    (enumerate_from 0 codes)) (enumerate_from 0 codes)

-- by the first code's figures, and then the second's
abbrev pub pair_cmp : CodePair → CodePair → Ordering
pair_cmp p q = ordering_then (slice_cmp nat_cmp p.first.1.figures q.first.1.figures)
    (slice_cmp nat_cmp p.second.1.figures q.second.1.figures)

-- the less of a pair and another one, if there is another
abbrev pub lesser : CodePair → Option CodePair → Option CodePair
lesser p None = Some p
lesser p (Some q) = if is_le (pair_cmp p q) then Some p else Some q

-- the least of some pairs
abbrev pub least : List CodePair → Option CodePair
least [] = None
least (p ∷ ps) = lesser p (least ps)

-- the least pair of a code and a longer code that begins with it; none where no code begins another
abbrev pub ambiguous_of : List Code → Option (ℕ × ℕ)
ambiguous_of codes = option_map (λ p. (p.first.0, p.second.0))
    (least (filter is_ambiguous (code_pairs codes)))
