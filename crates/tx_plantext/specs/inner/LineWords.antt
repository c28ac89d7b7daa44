-- A line of a plan as a value, by its words.
use Rattle.std.specs.Prelude.{◌≡◌, ℕ, List, [], ◌∷◌, slice_get, codes, if◌then◌else◌, Option, None, Some, Result, Ok, Err}
use Rattle.std.specs.Option.{option_map}
use Rattle.std.specs.Str.{bytes_eq}
use Rattle.tx_plan.specs.Plan.{Plan}
use Rattle.tx_plantext.specs.declared.fault.PlanWord.TheVariants.{UnknownWord as NoSuchWord}
use Rattle.tx_plantext.specs.declared.plan_line.PlanLine.{PlanLine}
use Rattle.tx_plantext.specs.declared.plan_line.PlanLine.TheVariants.{Exchange, Code, Lines, Group, Route, Bar}
use Rattle.tx_plantext.specs.declared.plan_line.LineFault.{LineFault}
use Rattle.tx_plantext.specs.declared.plan_line.LineFault.TheVariants.{UnknownWord, WrongCount}
use Rattle.tx_plantext.specs.PlanText.{declare, wrong_count}
use Rattle.tx_plantext.specs.PlanWritten.{direction_word}

-- the words of a line
abbrev pub line_words : PlanLine → List (List ℕ)
line_words (Exchange name) = codes "EXCHANGE" ∷ name.now ∷ []
line_words (Code code home) = codes "CODE" ∷ code.now ∷ home.now ∷ []
line_words (Lines code low high) = codes "LINES" ∷ code.now ∷ low.now ∷ high.now ∷ []
line_words (Group name a b direction count) =
    codes "GROUP" ∷ name.now ∷ a.now ∷ b.now ∷ direction_word direction ∷ count.now ∷ []
line_words (Route exchange code groups) = codes "ROUTE" ∷ exchange.now ∷ code.now ∷ groups
line_words (Bar exchange code) = codes "BAR" ∷ exchange.now ∷ code.now ∷ []

-- the word that no line has there: the first one, or of a group the one for its direction
abbrev pub unknown_of : List (List ℕ) → Option (List ℕ)
unknown_of [] = None
unknown_of (w ∷ ws) = if bytes_eq w (codes "GROUP") then slice_get ws 3 else Some w

-- What words are read as, under a header of this version: a line, which declares the same under the
-- version that has all lines, or no line
abbrev pub IsRead : ℕ → List (List ℕ) → Result PlanLine LineFault → Type 0
IsRead v ws (Ok line) = (ws ≡ line_words line)
    × ((p : Plan) → declare v p ws ≡ declare 2 p ws)
IsRead v ws (Err (UnknownWord w)) = ((p : Plan) → declare v p ws ≡ Err NoSuchWord)
    × (option_map (λ b. b.now) w ≡ unknown_of ws)
IsRead v ws (Err WrongCount) = (p : Plan) → declare v p ws ≡ wrong_count
