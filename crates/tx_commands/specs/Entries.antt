-- The table of codes and words, and which of its entries a word or a line asks for.
use Rattle.std.specs.Prelude.{ℕ, Bool, ◌==◌, ◌||◌, List, [], ◌++◌, map, filter, get_or}
use Rattle.std.specs.Borrow.{Bor}
use Rattle.std.specs.List.{list_any, slice_split}
use Rattle.std.specs.Str.{str_eq_ignore_ascii_case}
use Rattle.tx_commands.specs.declared.text_faults.TheConstants.{TEXT_FAULTS}
use Rattle.tx_commands.specs.declared.run_codes.TheConstants.{RUN_CODES}
use Rattle.tx_commands.specs.declared.plan_codes.TheConstants.{PLAN_CODES}
use Rattle.tx_commands.specs.declared.report_words.TheConstants.{REPORT_WORDS}
use Rattle.tx_commands.specs.declared.way_words.TheConstants.{WAY_WORDS}
use Rattle.tx_commands.specs.declared.run_words.TheConstants.{RUN_WORDS}

-- a code or a word, its name, what it means, and what to do about it
abbrev pub Texts : Type 0
Texts = List ℕ × List ℕ × List ℕ × List ℕ

-- a text of an entry, by its index, of which there are four
abbrev pub text_at : List (Bor (List ℕ)) → ℕ → List ℕ
text_at e i = (get_or e i (record { ref_ptr = (0, 0); now = [] })).now

-- the four texts of an entry
abbrev pub texts : List (Bor (List ℕ)) → Texts
texts e = (text_at e 0, text_at e 1, text_at e 2, text_at e 3)

-- the table, as its texts: the codes of faults of texts, those that a run prints, those of what is
-- wrong with a plan, the words of reports, of outages and ways, and of a run
unfoldable pub table : List Texts
table = map (λ e. let t = get_or e in (
  (t 0 (record { now = [] })).now,
  (t 1 (record { now = [] })).now,
  (t 2 (record { now = [] })).now,
  (t 3 (record { now = [] })).now,
))
    (TEXT_FAULTS ++ (RUN_CODES ++ (PLAN_CODES ++ (REPORT_WORDS ++ (WAY_WORDS ++ RUN_WORDS)))))

-- a word asks for an entry by its code or its name, in capitals or small letters
abbrev pub is_asked_by : List ℕ → Texts → Bool
is_asked_by word t = str_eq_ignore_ascii_case t.0 word || str_eq_ignore_ascii_case t.1 word

-- what the table says of a word: the entries that it asks for, in order
abbrev pub entries_of : List ℕ → List Texts
entries_of word = filter (is_asked_by word) table

-- a line asks for an entry by one of its words; 32 is the blank between two
abbrev pub is_asked : List ℕ → Texts → Bool
is_asked line t = list_any (λ word. is_asked_by word t) (slice_split (λ b. b == 32) line)

-- it asks for some entry
abbrev pub is_known : List ℕ → Bool
is_known line = list_any (is_asked line) table
