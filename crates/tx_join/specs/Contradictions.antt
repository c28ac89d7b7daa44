-- What two plans declare in contradiction, and which lines of their texts do.
use Rattle.std.specs.Prelude.{ℕ, ◌&&◌, if◌then◌else◌, List, [], ◌∷◌, Option, Some, None, Result, Ok, Err, codes, slice_get, unwrap_or}
use Rattle.std.specs.List.{filter_map}
use Rattle.std.specs.Option.{option_map}
use Rattle.std.specs.Str.{bytes_eq}
use Rattle.tx_text.specs.Text.{Line, lines_of, checked}
use Rattle.tx_text.specs.Words.{words_of}
use Rattle.tx_text.specs.declared.text_fault.TextFault.{TextFault}
use Rattle.tx_plan.specs.Plan.{Plan, code_named, exchange_name, figures_of, home_of}
use Rattle.tx_join.specs.declared.contradiction.Kind.{Kind}
use Rattle.tx_join.specs.declared.contradiction.Kind.TheVariants.{Code, Group}
use Rattle.tx_join.specs.declared.contradiction.Contradiction.{Contradiction}

-- the word that begins the line of a code or a group
abbrev pub kind_word : Kind → List ℕ
kind_word Code = codes "CODE"
kind_word Group = codes "GROUP"

-- the number, if the words begin with these two
abbrev pub if_first : (word name : List ℕ) → ℕ → List (List ℕ) → Option ℕ
if_first word name n [] = None
if_first word name n (w ∷ []) = None
if_first word name n (w ∷ v ∷ ws) = if bytes_eq w word && bytes_eq v name then Some n else None

-- the number of a line, if its first two words are these
abbrev pub declared_at : (word name : List ℕ) → Result Line TextFault → Option ℕ
declared_at word name (Ok l) = if_first word name l.number (words_of l.bytes)
declared_at word name (Err x) = None

-- the number of the first of some lines whose first two words are these; 0 where there is none
abbrev pub first_declared : (word name : List ℕ) → List (Result Line TextFault) → ℕ
first_declared word name lines =
    unwrap_or (slice_get (filter_map (declared_at word name) lines) 0) 0

-- That of the lines of a text
abbrev pub line_declaring : (word name text : List ℕ) → ℕ
line_declaring word name text = first_declared word name (checked (lines_of text))

-- the homes of a code of the new plan: that in the old plan, if it has the code, and its own
abbrev pub homes_of : (old new : Plan) → ℕ → Option (List ℕ × List ℕ)
homes_of old new c = option_map
    (λ d. (exchange_name old (home_of old d), exchange_name new (home_of new c)))
    (code_named old (figures_of new c))

-- The contradiction of a code or a group of this name, in an old text and a new one, with the homes
-- of a code
abbrev pub contradiction_of : Kind → (name : List ℕ) → Option (List ℕ × List ℕ)
    → (old new : List ℕ) → Contradiction
contradiction_of kind name homes old new = record {
  kind = kind;
  name = name;
  homes = homes;
  old_line = line_declaring (kind_word kind) name old;
  new_line = line_declaring (kind_word kind) name new;
}
