-- A name that was asked for and that a plan does not have, and the one that was probably meant.
use Rattle.std.specs.Prelude.{ℕ, Bool, ◌||◌, nat_eq, nat_le, nat_lt, if◌then◌else◌, List, ◌++◌, Option, None, codes, length, map}
use Rattle.std.specs.List.{find}
use Rattle.std.specs.Option.{option_or}
use Rattle.strsim.specs.Edits.{levenshtein_row}
use Rattle.tx_plan.specs.Plan.{Plan}
use Rattle.tx_files.specs.declared.missing.Missing.{Missing}
use Rattle.tx_files.specs.declared.missing.Named.{Named}
use Rattle.tx_files.specs.declared.missing.Named.TheVariants.{Exchange, Code, Group, ExchangeOrGroup}

-- what a name is to name, in words
abbrev pub named_word : Named → List ℕ
named_word Exchange = codes "exchange"
named_word Code = codes "code"
named_word Group = codes "group"
named_word ExchangeOrGroup = codes "exchange or group"

-- the names of a plan that name that
abbrev pub names_of : Plan → Named → List (List ℕ)
names_of p Exchange = p.exchanges
names_of p Code = map (λ c. c.figures) p.codes
names_of p Group = map (λ g. g.name) p.groups
names_of p ExchangeOrGroup = p.exchanges ++ map (λ g. g.name) p.groups

-- so few edits lead from a word to a name: bytes put in, taken out or replaced
abbrev pub is_within : (most : ℕ) → (word name : List ℕ) → Bool
is_within most word name = nat_le (levenshtein_row nat_eq word name (length name)) most

-- The name that was probably meant by a word: the first one edit away, or else, if the word has five
-- bytes or more, the first two away. A word of less than three bytes, or of more than ten, is near no
-- name.
abbrev pub nearest : (word : List ℕ) → (names : List (List ℕ)) → Option (List ℕ)
nearest word names =
    if nat_lt (length word) 3 || nat_lt 10 (length word) then None
    else option_or (find (is_within 1 word) names)
    (if nat_lt (length word) 5 then None else find (is_within 2 word) names)

-- what is told of a word, one of those that are asked for, that the plan does not have
abbrev pub missing : Plan → Named → (place : ℕ) → (word : List ℕ) → Missing
missing p named place word =
    record { named = named; place = place; near = nearest word (names_of p named) }
