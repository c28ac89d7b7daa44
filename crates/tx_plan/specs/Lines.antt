-- Subscribers' lines and their full numbers (ITU-T F.69).
use Rattle.std.specs.Prelude.{ℕ, Bool, ◌&&◌, ◌==◌, List, ◌++◌}
use Rattle.std.specs.List.{list_any}
use Rattle.tx_text.specs.Words.{are_figures}
pub use Rattle.tx_plan.specs.Numbers.{at_most, in_range}
use Rattle.tx_plan.specs.Plan.{Plan, figures_of}
use Rattle.tx_plan.specs.declared.ids.Line.{Line}

-- a code and a text are a line where the text is figures, and lies in a range of the code
abbrev pub is_line_at : Plan → ℕ → List ℕ → Bool
is_line_at p code number = are_figures 1 9 number
    && list_any (λ r. (r.code == code) && in_range number r) p.ranges

-- it is a line of the plan
abbrev pub is_line : Plan → Line → Bool
is_line p l = is_line_at p l.code l.national

-- the code followed by the national number
abbrev pub full_number : Plan → Line → List ℕ
full_number p l = figures_of p l.code ++ l.national
