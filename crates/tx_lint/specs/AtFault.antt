-- The word at fault in a line that is refused. There is one where one word is at fault by itself:
-- of a number of words, of a range's ends, of an exchange and a code that do not go together, and
-- of too many entries none is.
use Rattle.std.specs.Prelude.{ℕ, Bool, not, ◌||◌, List, [], ◌∷◌, length, find, slice_get, codes, if◌then◌else◌, Option, Some, None}
use Rattle.std.specs.List.{list_any}
use Rattle.std.specs.Option.{option_or}
use Rattle.std.specs.Str.{bytes_eq}
use Rattle.tx_text.specs.declared.frame.FaultKind.{FaultKind}
use Rattle.tx_text.specs.declared.frame.FaultKind.TheVariants.{Frame, Word}
use Rattle.tx_text.specs.Words.{is_name}
use Rattle.tx_plan.specs.Numbers.{is_national}
use Rattle.tx_plan.specs.declared.refusal.PlanRefusal.{PlanRefusal}
use Rattle.tx_plan.specs.declared.refusal.PlanRefusal.TheVariants.{BadName, BadCode, BadNumber, Duplicate, Unknown, SameEnds, NotOutgoing, RepeatedGroup}
use Rattle.tx_plan.specs.Plan.{Plan}
use Rattle.tx_plan.specs.Declaring.{has_exchange, has_code, has_group, pair_named, is_not_outgoing}
use Rattle.tx_plantext.specs.declared.fault.PlanWord.{PlanWord}
use Rattle.tx_plantext.specs.declared.fault.PlanWord.TheVariants.{UnknownWord, Refused}
use Rattle.tx_lint.specs.declared.entry.Entry.{Entry}
use Rattle.tx_lint.specs.declared.entry.Entry.TheVariants.{Header, Exchange, Code, Lines, Group, Route, Bar}

-- What a line declares, by the word that it begins with: the next entry of one list
abbrev pub entry_of : Plan → List ℕ → Option Entry
entry_of p w =
    if bytes_eq w (codes "EXCHANGE") then Some (Exchange (length p.exchanges))
    else if bytes_eq w (codes "CODE") then Some (Code (length p.codes))
    else if bytes_eq w (codes "LINES") then Some (Lines (length p.ranges))
    else if bytes_eq w (codes "GROUP") then Some (Group (length p.groups))
    else if bytes_eq w (codes "ROUTE") then Some (Route (length p.routes))
    else if bytes_eq w (codes "BAR") then Some (Bar (length p.bars))
    else None

-- the first of some words that is not what it should be
abbrev pub first_not : (List ℕ → Bool) → List (List ℕ) → Option (List ℕ)
first_not is_right ws = find (λ w. not (is_right w)) ws

-- the first of some words that comes again
abbrev pub first_again : List (List ℕ) → Option (List ℕ)
first_again [] = None
first_again (w ∷ ws) = if list_any (bytes_eq w) ws then Some w else first_again ws

-- of the words for an exchange and a code, the first that is not declared
abbrev pub unknown_of_pair : Plan → (exchange code : List ℕ) → Option (List ℕ)
unknown_of_pair p exchange code =
    option_or (first_not (has_exchange p) (exchange ∷ [])) (first_not (has_code p) (code ∷ []))

-- In what follows the words are those after the first of a line, and the refusal is theirs.

-- EXCHANGE name
abbrev pub exchange_word : List (List ℕ) → PlanRefusal → Option (List ℕ)
exchange_word (name ∷ ws) BadName = Some name
exchange_word (name ∷ ws) Duplicate = Some name
exchange_word ws other = None

-- CODE code exchange
abbrev pub code_word : List (List ℕ) → PlanRefusal → Option (List ℕ)
code_word (code ∷ home ∷ ws) BadName = Some home
code_word (code ∷ home ∷ ws) BadCode = Some code
code_word (code ∷ home ∷ ws) Duplicate = Some code
code_word (code ∷ home ∷ ws) Unknown = Some home
code_word ws other = None

-- LINES code low high
abbrev pub lines_word : List (List ℕ) → PlanRefusal → Option (List ℕ)
lines_word (code ∷ low ∷ high ∷ ws) BadCode = Some code
lines_word (code ∷ low ∷ high ∷ ws) BadNumber = first_not is_national (low ∷ high ∷ [])
lines_word (code ∷ low ∷ high ∷ ws) Unknown = Some code
lines_word ws other = None

-- GROUP name a b direction count
abbrev pub group_word : Plan → List (List ℕ) → PlanRefusal → Option (List ℕ)
group_word p (name ∷ a ∷ b ∷ d ∷ count ∷ ws) BadName = first_not is_name (name ∷ a ∷ b ∷ [])
group_word p (name ∷ a ∷ b ∷ d ∷ count ∷ ws) BadNumber = Some count
group_word p (name ∷ a ∷ b ∷ d ∷ count ∷ ws) Duplicate = Some name
group_word p (name ∷ a ∷ b ∷ d ∷ count ∷ ws) Unknown = first_not (has_exchange p) (a ∷ b ∷ [])
group_word p (name ∷ a ∷ b ∷ d ∷ count ∷ ws) SameEnds = Some b
group_word p ws other = None

-- ROUTE exchange code group ..
abbrev pub route_word : Plan → List (List ℕ) → PlanRefusal → Option (List ℕ)
route_word p (x ∷ code ∷ groups) BadName = first_not is_name (x ∷ groups)
route_word p (x ∷ code ∷ groups) BadCode = Some code
route_word p (x ∷ code ∷ groups) Unknown =
    option_or (unknown_of_pair p x code) (first_not (has_group p) groups)
route_word p (x ∷ code ∷ groups) NotOutgoing =
    find (is_not_outgoing p (pair_named p x code)) groups
route_word p (x ∷ code ∷ groups) RepeatedGroup = first_again groups
route_word p ws other = None

-- BAR exchange code
abbrev pub bar_word : Plan → List (List ℕ) → PlanRefusal → Option (List ℕ)
bar_word p (x ∷ code ∷ ws) BadName = Some x
bar_word p (x ∷ code ∷ ws) BadCode = Some code
bar_word p (x ∷ code ∷ ws) Unknown = unknown_of_pair p x code
bar_word p ws other = None

-- by what the line would declare
abbrev pub refused_word : Plan → Option Entry → List (List ℕ) → PlanRefusal → Option (List ℕ)
refused_word p None ws r = None
refused_word p (Some Header) ws r = None
refused_word p (Some (Exchange x)) ws r = exchange_word ws r
refused_word p (Some (Code c)) ws r = code_word ws r
refused_word p (Some (Lines i)) ws r = lines_word ws r
refused_word p (Some (Group g)) ws r = group_word p ws r
refused_word p (Some (Route i)) ws r = route_word p ws r
refused_word p (Some (Bar i)) ws r = bar_word p ws r

-- No line begins with the word; or a line begins with GROUP, and its fifth word is no direction.
abbrev pub unknown_word : List ℕ → List (List ℕ) → Option (List ℕ)
unknown_word w ws = if bytes_eq w (codes "GROUP") then slice_get ws 3 else Some w

-- The word at fault of a line, after what the lines before it declared
abbrev pub word_at_fault : Plan → List (List ℕ) → FaultKind PlanWord → Option (List ℕ)
word_at_fault p [] kind = None
word_at_fault p (w ∷ ws) (Frame fault) = None
word_at_fault p (w ∷ ws) (Word UnknownWord) = unknown_word w ws
word_at_fault p (w ∷ ws) (Word (Refused r)) = refused_word p (entry_of p w) ws r

-- A line that begins with the word declares a name, which is the next word.
abbrev pub declares_name : List ℕ → Bool
declares_name w = bytes_eq w (codes "EXCHANGE")
    || (bytes_eq w (codes "CODE") || bytes_eq w (codes "GROUP"))

-- The name that a line of these words declares, or is meant to declare
abbrev pub meant_name : List (List ℕ) → Option (List ℕ)
meant_name [] = None
meant_name (w ∷ []) = None
meant_name (w ∷ name ∷ ws) = if declares_name w then Some name else None
