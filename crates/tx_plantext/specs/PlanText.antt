-- The grammar of plan texts: what each line declares after those before it.
use Rattle.std.specs.Prelude.{ℕ, Bool, true, false, ◌&&◌, ◌==◌, List, [], ◌∷◌, Option, None, Some, Result, Ok, Err, codes, unwrap_or, if◌then◌else◌}
use Rattle.std.specs.Str.{bytes_eq}
use Rattle.std.specs.Io.KnownBytes.{IsAtEnd}
use Rattle.tx_text.specs.declared.frame.FaultKind.{FaultKind}
use Rattle.tx_text.specs.Ends.{Input}
use Rattle.tx_text.specs.Words.{number_of}
use Rattle.tx_text.specs.Told.{Ending, AtEnd}
use Rattle.tx_text.specs.Frame.{EndsAs}
use Rattle.tx_text.specs.Said.{text_said, line_declares, ReadsText}
use Rattle.tx_plan.specs.declared.refusal.PlanRefusal.{PlanRefusal}
use Rattle.tx_plan.specs.declared.refusal.PlanRefusal.TheVariants.{WrongCount, NoMemory}
use Rattle.tx_plan.specs.declared.ids.Direction.{Direction}
use Rattle.tx_plan.specs.declared.ids.Direction.TheVariants.{OneWay, BothWay}
use Rattle.tx_plan.specs.Plan.{Plan, no_plan}
use Rattle.tx_plan.specs.Declaring.{first_true, exchange_refusals, code_refusals, lines_refusals, group_refusals, route_refusals, bar_refusals, with_exchange, with_code, with_lines, with_group, with_route, with_bar}
use Rattle.tx_plantext.specs.declared.fault.PlanWord.{PlanWord}
use Rattle.tx_plantext.specs.declared.fault.PlanWord.TheVariants.{UnknownWord, Refused}

-- the plan after a line, or what is wrong with its words
abbrev pub Said : Type 0
Said = Result Plan PlanWord

-- the plan, unless something refuses it
abbrev pub unless : Option PlanRefusal → Plan → Said
unless None p = Ok p
unless (Some r) p = Err (Refused r)

-- a line has too few or too many words
abbrev pub wrong_count : Said
wrong_count = Err (Refused WrongCount)

-- what the words after EXCHANGE declare: a name
abbrev pub exchange_line : Plan → List (List ℕ) → Said
exchange_line p [] = wrong_count
exchange_line p (name ∷ []) = unless (first_true (exchange_refusals p name)) (with_exchange p name)
exchange_line p (name ∷ w ∷ ws) = wrong_count

-- after CODE: a code and its home
abbrev pub code_line : Plan → List (List ℕ) → Said
code_line p [] = wrong_count
code_line p (code ∷ []) = wrong_count
code_line p (code ∷ home ∷ []) =
    unless (first_true (code_refusals p code home)) (with_code p code home)
code_line p (code ∷ home ∷ w ∷ ws) = wrong_count

-- after LINES: a code, and the lowest and the highest number
abbrev pub lines_line : Plan → List (List ℕ) → Said
lines_line p [] = wrong_count
lines_line p (code ∷ []) = wrong_count
lines_line p (code ∷ low ∷ []) = wrong_count
lines_line p (code ∷ low ∷ high ∷ []) =
    unless (first_true (lines_refusals p code low high)) (with_lines p code low high)
lines_line p (code ∷ low ∷ high ∷ w ∷ ws) = wrong_count

-- the direction that a word names
abbrev pub direction_of : List ℕ → Option Direction
direction_of w = if bytes_eq w (codes "ONEWAY")
    then Some OneWay else if bytes_eq w (codes "BOTHWAY") then Some BothWay else None

-- a word that is no number of at most 240 counts as 0, which is refused as such
abbrev pub count_of : List ℕ → ℕ
count_of w = unwrap_or (number_of 240 w) 0

-- a group of these words, where the fourth of them names a direction
abbrev pub group_by : Plan → List ℕ → List ℕ → List ℕ → Option Direction → ℕ → Said
group_by p name a b None count = Err UnknownWord
group_by p name a b (Some d) count =
    unless (first_true (group_refusals p name a b count)) (with_group p name a b d count)

-- after GROUP: a name, two exchanges, a direction and a count
abbrev pub group_line : Plan → List (List ℕ) → Said
group_line p [] = wrong_count
group_line p (name ∷ []) = wrong_count
group_line p (name ∷ a ∷ []) = wrong_count
group_line p (name ∷ a ∷ b ∷ []) = wrong_count
group_line p (name ∷ a ∷ b ∷ direction ∷ []) = wrong_count
group_line p (name ∷ a ∷ b ∷ direction ∷ count ∷ []) =
    group_by p name a b (direction_of direction) (count_of count)
group_line p (name ∷ a ∷ b ∷ direction ∷ count ∷ w ∷ ws) = wrong_count

-- after ROUTE: an exchange, a code and groups
abbrev pub route_line : Plan → List (List ℕ) → Said
route_line p [] = wrong_count
route_line p (exchange ∷ []) = wrong_count
route_line p (exchange ∷ code ∷ groups) =
    unless (first_true (route_refusals p exchange code groups)) (with_route p exchange code groups)

-- after BAR: an exchange and a code
abbrev pub bar_line : Plan → List (List ℕ) → Said
bar_line p [] = wrong_count
bar_line p (exchange ∷ []) = wrong_count
bar_line p (exchange ∷ code ∷ []) =
    unless (first_true (bar_refusals p exchange code)) (with_bar p exchange code)
bar_line p (exchange ∷ code ∷ w ∷ ws) = wrong_count

-- What a line declares under a header of this version, after the lines before it. The line of the
-- one word END is none of these.
unfoldable pub declare : ℕ → Plan → List (List ℕ) → Said
declare v p [] = Err UnknownWord
declare v p (w ∷ ws) =
    if bytes_eq w (codes "EXCHANGE") then exchange_line p ws
    else if bytes_eq w (codes "CODE") then code_line p ws
    else if bytes_eq w (codes "LINES") then lines_line p ws
    else if bytes_eq w (codes "GROUP") then group_line p ws
    else if bytes_eq w (codes "ROUTE") then route_line p ws
    else if (v == 2) && bytes_eq w (codes "BAR") then bar_line p ws
    else if bytes_eq w (codes "END") then wrong_count
    else Err UnknownWord

-- the plan that a text says, or its first fault, whichever way the text ends
abbrev pub plan_of : Ending → List ℕ → Result Plan (ℕ × FaultKind PlanWord)
plan_of = text_said declare (codes "PLAN") 2 no_plan

-- line n of a text declares something, and so does each line before it: where memory can run out
abbrev pub declares_line : ℕ → Ending → List ℕ → Bool
declares_line = line_declares declare (codes "PLAN") 2 no_plan

-- no memory was left
abbrev pub is_memory : PlanWord → Bool
is_memory (Refused NoMemory) = true
is_memory w = false

-- the whole text that was read says this plan
abbrev pub SaysPlan : Input → Plan → Type 0
SaysPlan text p = EndsAs text.old text.new plan_of AtEnd (Ok p) × IsAtEnd text.new

-- what a reader of plan texts answers
abbrev pub ReadsPlan : Input → Result Plan (ℕ × FaultKind PlanWord) → Type 0
ReadsPlan = ReadsText declare is_memory (codes "PLAN") 2 no_plan

-- a refusal of the builder as a fault of the line's words
abbrev pub word_told : Result (Unit {0}) PlanRefusal → Result (Unit {0}) PlanWord
word_told (Ok x) = Ok x
word_told (Err e) = Err (Refused e)
