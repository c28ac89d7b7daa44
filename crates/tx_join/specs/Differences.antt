-- In what two plans differ beside their lists and bars, as lines of words.
use Rattle.std.specs.Prelude.{ℕ, Bool, true, false, not, ◌&&◌, ◌||◌, ◌==◌, nat_lt, if◌then◌else◌, List, [], ◌∷◌, length, slice_get, codes, decimal}
use Rattle.std.specs.List.{list_any, flat_map, range_with_len}
use Rattle.std.specs.Option.{option_map_or}
use Rattle.std.specs.Str.{bytes_eq}
use Rattle.tx_text.specs.Written.{line_written}
use Rattle.tx_plan.specs.declared.range.LineRange.{LineRange}
use Rattle.tx_plan.specs.Plan.{Plan, exchange_name, figures_of, group_name, group_named}
use Rattle.tx_plan.specs.Circuits.{count_of}
use Rattle.tx_plan.specs.Declaring.{has_exchange, has_code, has_group}
use Rattle.tx_join.specs.declared.entries.Entries.{Entries}
use Rattle.tx_join.specs.declared.entries.Entries.TheVariants.{Exchanges, Codes, Ranges, Groups}

-- THE ENTRIES OF A NETWORK

-- how many entries a list of a plan has
abbrev pub count_of_entries : Entries → Plan → ℕ
count_of_entries Exchanges p = length p.exchanges
count_of_entries Codes p = length p.codes
count_of_entries Ranges p = length p.ranges
count_of_entries Groups p = length p.groups

-- a range of a plan is that of the lines of a code from low to high
abbrev pub is_range : Plan → (code low high : List ℕ) → LineRange → Bool
is_range p code low high r = bytes_eq (figures_of p r.code) code
    && (bytes_eq r.low low && bytes_eq r.high high)

-- a plan has these lines as one range
abbrev pub has_range : Plan → (code low high : List ℕ) → Bool
has_range p code low high = list_any (is_range p code low high) p.ranges

-- the plan q has the range at an index of p
abbrev pub has_range_at : (p q : Plan) → ℕ → Bool
has_range_at p q i = option_map_or (λ r. has_range q (figures_of p r.code) r.low r.high)
    (slice_get p.ranges i) true

-- q has the entry at an index of p
abbrev pub is_known : Entries → (p q : Plan) → ℕ → Bool
is_known Exchanges p q x = has_exchange q (exchange_name p x)
is_known Codes p q c = has_code q (figures_of p c)
is_known Ranges p q i = has_range_at p q i
is_known Groups p q g = has_group q (group_name p g)

-- the words of a range: its code, and its lowest and highest number
abbrev pub range_words : Plan → LineRange → List (List ℕ)
range_words p r = codes "LINES" ∷ figures_of p r.code ∷ r.low ∷ r.high ∷ []

-- those of an entry: what it is, and what names it
abbrev pub entry_words : Entries → Plan → ℕ → List (List ℕ)
entry_words Exchanges p x = codes "EXCHANGE" ∷ exchange_name p x ∷ []
entry_words Codes p c = codes "CODE" ∷ figures_of p c ∷ []
entry_words Ranges p i = option_map_or (range_words p) (slice_get p.ranges i) []
entry_words Groups p g = codes "GROUP" ∷ group_name p g ∷ []

-- the lines of an entry of p: one after this word, if q does not have it
abbrev pub entry_lines : Entries → (word : List ℕ) → (p q : Plan) → ℕ → List (List (List ℕ))
entry_lines entries word p q i =
    if is_known entries p q i then [] else (word ∷ entry_words entries p i) ∷ []

-- those of all indexes below a number, as they are written
abbrev pub each_written : (ℕ → List (List (List ℕ))) → ℕ → List ℕ
each_written lines n = flat_map line_written (flat_map lines (range_with_len 0 n))

-- the entries of p that q does not have
abbrev pub alone : Entries → (word : List ℕ) → (p q : Plan) → List ℕ
alone entries word p q = each_written (entry_lines entries word p q) (count_of_entries entries p)

-- CIRCUITS

-- of two numbers of circuits the second is greater, or it is less
abbrev pub is_told : (grows : Bool) → (before after : ℕ) → Bool
is_told true before after = nat_lt before after
is_told false before after = nat_lt after before

-- the circuits of a group that gets more or loses some: its name and how many it has before and after
abbrev pub lines_of_circuits : (grows : Bool) → (name : List ℕ) → (before after : ℕ)
    → List (List (List ℕ))
lines_of_circuits grows name before after = if is_told grows before after
    then (codes "CIRCUITS" ∷ name ∷ decimal before ∷ decimal after ∷ []) ∷ [] else []

-- of a group that both plans have
abbrev pub circuits_lines : (grows : Bool) → (old new : Plan) → ℕ → List (List (List ℕ))
circuits_lines grows old new g = option_map_or
    (λ h. lines_of_circuits grows (group_name old g) (count_of old g) (count_of new h))
    (group_named new (group_name old g)) []

-- of all such groups
abbrev pub circuits : (grows : Bool) → (old new : Plan) → List ℕ
circuits grows old new = each_written (circuits_lines grows old new) (length old.groups)

-- WHETHER THEY DIFFER

-- p has an entry that q does not have
abbrev pub has_alone : Entries → (p q : Plan) → Bool
has_alone entries p q =
    list_any (λ i. not (is_known entries p q i)) (range_with_len 0 (count_of_entries entries p))

-- one of the plans has an entry that the other does not have
abbrev pub differ_in : Entries → (old new : Plan) → Bool
differ_in entries old new = has_alone entries new old || has_alone entries old new

-- both plans have a group, with other numbers of circuits
abbrev pub has_other_circuits : (old new : Plan) → ℕ → Bool
has_other_circuits old new g = option_map_or (λ h. not (count_of old g == count_of new h))
    (group_named new (group_name old g)) false

-- The plans differ beside their lists and bars
abbrev pub differ : (old new : Plan) → Bool
differ old new = differ_in Exchanges old new || (differ_in Codes old new
    || (differ_in Ranges old new || (differ_in Groups old new
    || list_any (has_other_circuits old new) (range_with_len 0 (length old.groups)))))
