-- The two texts of one input: a plan, which goes up to and with the first line whose only word is
-- END, and then a script.
use Rattle.std.specs.Prelude.{ℕ, ◌-◌, List, [], ◌∷◌, Option, None, Some, length, take, drop, if◌then◌else◌}
use Rattle.tx_text.specs.Text.{Line, lines_of}
use Rattle.tx_text.specs.Words.{words_of}
use Rattle.tx_text.specs.Frame.{is_end}

-- Where the plan ends in a text of this length: after the first line whose only word is END, which
-- is where the next line starts; or at the end of the text.
unfoldable pub plan_end : ℕ → List Line → ℕ
plan_end size [] = size
plan_end size (last ∷ []) = size
plan_end size (line ∷ next ∷ lines) = if is_end (words_of line.bytes)
    then next.start else plan_end size (next ∷ lines)

-- where a text is cut: how many of its bytes are of the plan
abbrev pub cut_of : List ℕ → ℕ
cut_of text = plan_end (length text) (lines_of text)

-- the plan of a text
abbrev pub plan_part : List ℕ → List ℕ
plan_part text = take (cut_of text) text

-- the script of a text
abbrev pub script_part : List ℕ → List ℕ
script_part text = drop (cut_of text) text

-- what is left of the plan of this text, where these bytes of the text are left
abbrev pub left_of_plan : Option (List ℕ) → Option (List ℕ) → Option (List ℕ)
left_of_plan (Some text) (Some more) = Some (drop (length text - length more) (plan_part text))
left_of_plan text more = None
