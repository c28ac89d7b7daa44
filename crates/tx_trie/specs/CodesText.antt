-- The codes of a plan as they are written out.
use Rattle.std.specs.Prelude.{ℕ, List, [], ◌∷◌, ◌++◌, codes, Option, Some, None}
use Rattle.std.specs.List.{flat_map}
use Rattle.tx_text.specs.Written.{line_written}
use Rattle.tx_plan.specs.Plan.{Plan, Code, figures_of, exchange_name}
use Rattle.tx_plan.specs.Ambiguous.{ambiguous_of}

-- a code and its home
abbrev pub code_line : Plan → Code → List ℕ
code_line p c = line_written (codes "CODE" ∷ c.figures ∷ exchange_name p c.home ∷ [])

-- the ambiguous pair, if there is one
abbrev pub pair_line : Plan → Option (ℕ × ℕ) → List ℕ
pair_line p None = line_written (codes "DISTINCT" ∷ [])
pair_line p (Some q) = line_written (codes "AMBIGUOUS" ∷ figures_of p q.0 ∷ figures_of p q.1 ∷ [])

-- the codes in order of declaration, and then the ambiguous pair
abbrev pub codes_text : Plan → List ℕ
codes_text p = flat_map (code_line p) p.codes ++ pair_line p (ambiguous_of p.codes)
