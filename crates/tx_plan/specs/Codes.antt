-- The code of keyed figures (ITU-T F.69).
use Rattle.std.specs.Prelude.{ℕ, Bool, ◌==◌, nat_lt, if◌then◌else◌, List, [], ◌∷◌, length, filter, Option, Some, None, is_some}
use Rattle.std.specs.List.{enumerate_from}
use Rattle.std.specs.Option.{option_map}
use Rattle.tx_plan.specs.Plan.{Plan, Code}

-- what is left of a text after a prefix, if it begins with that
abbrev pub after : List ℕ → List ℕ → Option (List ℕ)
after [] text = Some text
after (x ∷ xs) [] = None
after (x ∷ xs) (y ∷ ys) = if x == y then after xs ys else None

-- a text begins with the front
abbrev pub is_prefix : List ℕ → List ℕ → Bool
is_prefix front text = is_some (after front text)

-- the codes, with their indexes, that begin the figures
abbrev pub codes_before : Plan → List ℕ → List (ℕ × Code)
codes_before p keyed = filter (λ e. is_prefix e.1.figures keyed) (enumerate_from 0 p.codes)

-- the longer of a code and another one, if there is another
abbrev pub longer : ℕ × Code → Option (ℕ × Code) → Option (ℕ × Code)
longer e None = Some e
longer e (Some f) = if nat_lt (length f.1.figures) (length e.1.figures) then Some e else Some f

-- the longest of some codes
abbrev pub longest : List (ℕ × Code) → Option (ℕ × Code)
longest [] = None
longest (e ∷ es) = longer e (longest es)

-- the longest of the codes that begin the keyed figures
abbrev pub code_of : Plan → List ℕ → Option ℕ
code_of p keyed = option_map (λ e. e.0) (longest (codes_before p keyed))
