-- The lines of a text that declare what a plan has.
use Rattle.std.specs.Prelude.{◌≡◌, ◌≤◌, ℕ, true, List, ◌∷◌, Ok}
use Rattle.tx_text.specs.Text.{Line, lines_of}
use Rattle.tx_text.specs.Told.{AtEnd}
use Rattle.tx_text.specs.Words.{words_of}
use Rattle.tx_plan.specs.Plan.{Plan}
use Rattle.tx_plan.specs.Among.{Among}
use Rattle.tx_plan.specs.Declaring.{has_code, has_group}
use Rattle.tx_plantext.specs.PlanText.{plan_of}
use Rattle.tx_join.specs.declared.contradiction.Kind.TheVariants.{Code, Group}
use Rattle.tx_join.specs.Contradictions.{kind_word, line_declaring}

-- line n of a text begins with these two words; the first line is line 1
pub record BeginsWith (word name text : List ℕ) (n : ℕ) : Type 0 where
  pub line : Line
  pub among : Among line (lines_of text)
  pub number : line.number ≡ n
  pub some : 1 ≤ n
  pub rest : List (List ℕ)
  pub words : words_of line.bytes ≡ word ∷ name ∷ rest

-- Of each code that a plan has, the line that is told of the text that says the plan declares it.
abbrev pub CodesAreDeclared : Type 0
CodesAreDeclared = (text : List ℕ) (p : Plan) → plan_of AtEnd text ≡ Ok p → (name : List ℕ)
    → has_code p name ≡ true
    → BeginsWith (kind_word Code) name text (line_declaring (kind_word Code) name text)

-- of each group likewise
abbrev pub GroupsAreDeclared : Type 0
GroupsAreDeclared = (text : List ℕ) (p : Plan) → plan_of AtEnd text ≡ Ok p → (name : List ℕ)
    → has_group p name ≡ true
    → BeginsWith (kind_word Group) name text (line_declaring (kind_word Group) name text)
