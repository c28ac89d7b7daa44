-- The report of a mending, as it is written.
use Rattle.std.specs.Prelude.{ℕ, ◌+◌, ◌==◌, if◌then◌else◌, List, [], ◌++◌, length, filter, codes, decimal, Option, Some, None}
use Rattle.std.specs.List.{flat_map, list_any, range_with_len}
use Rattle.tx_plan.specs.Plan.{Plan, Route, figures_of, exchange_name}
use Rattle.tx_plantext.specs.ChangedLists.{changes}
use Rattle.tx_rank.specs.declared.finding.Finding.TheVariants.{Ambiguous}
use Rattle.tx_rank.specs.Report.{asked_line, finding_line, no_line}
use Rattle.tx_mend.specs.declared.cause.Cause.{Cause}
use Rattle.tx_mend.specs.declared.cause.Cause.TheVariants.{Rank, Groups}
use Rattle.tx_mend.specs.declared.cause.Missing.{Missing}
use Rattle.tx_mend.specs.declared.cause.Unserved.{Unserved}
use Rattle.tx_mend.specs.declared.mending.Mending.{Mending}
use Rattle.tx_mend.specs.declared.mending.Mending.TheVariants.{Mended, NoRouting}

-- what was asked
abbrev pub head_line : (limit spare : ℕ) → List ℕ
head_line = asked_line (codes "MEND")

-- The report of a plan that was mended, and had these routes before
abbrev pub mended_text : List Route → Plan → (limit spare : ℕ) → List ℕ
mended_text before p limit spare =
    head_line limit spare ++ (changes before p ++ codes "VERDICT YES\n")

-- the ambiguous pair of codes, if there is one
abbrev pub pair_line : Plan → Option (ℕ × ℕ) → List ℕ
pair_line p None = []
pair_line p (Some q) = finding_line {A = Unit {0}} p (Ambiguous q.0 q.1)

-- how many lines that pair has
abbrev pub pair_count : Option (ℕ × ℕ) → ℕ
pair_count None = 0
pair_count (Some q) = 1

-- why an exchange cannot be served
abbrev pub cause_words : Cause → List ℕ
cause_words (Rank r) = codes " RANK " ++ decimal r
cause_words (Groups n) = codes " GROUPS " ++ decimal n

-- a code, an exchange that cannot be served for it, and why
abbrev pub unserved_line : Plan → Unserved → List ℕ
unserved_line p u = codes "F5 UNSERVED " ++ (figures_of p u.code ++ (codes " "
    ++ (exchange_name p u.exchange ++ (cause_words u.cause ++ codes "\n"))))

-- an exchange, and how many groups it would need
abbrev pub missing_text : Plan → Missing → List ℕ
missing_text p m =
    codes " " ++ (exchange_name p m.exchange ++ (codes " " ++ decimal m.groups))

-- the same, if it is of this code
abbrev pub missing_for_code : Plan → (code : ℕ) → Missing → List ℕ
missing_for_code p code m = if m.code == code then missing_text p m else []

-- the word before those of a code, if there are any
abbrev pub missing_word : List Missing → (code : ℕ) → List ℕ
missing_word missing code = if list_any (λ m. m.code == code) missing then codes " MISSING" else []

-- where groups are missing for a code
abbrev pub missing_of : Plan → List Missing → (code : ℕ) → List ℕ
missing_of p missing code =
    missing_word missing code ++ flat_map (missing_for_code p code) missing

-- A code of which so many origins cannot be served, and where groups are missing for it; no line if
-- there is none
abbrev pub line_of_code : Plan → List Missing → (code count : ℕ) → List ℕ
line_of_code p missing code count = if count == 0 then [] else
    codes "CODE " ++ (figures_of p code ++ (codes " UNSERVED "
    ++ (decimal count ++ (missing_of p missing code ++ codes "\n"))))

-- that of a code
abbrev pub code_line : Plan → List Unserved → List Missing → (code : ℕ) → List ℕ
code_line p unserved missing code =
    line_of_code p missing code (length (filter (λ u. u.code == code) unserved))

-- those of all codes
abbrev pub code_lines : Plan → List Unserved → List Missing → List ℕ
code_lines p unserved missing =
    flat_map (code_line p unserved missing) (range_with_len 0 (length p.codes))

-- The report of a plan for which no routes can be certified: what was asked, a line for the pair
-- and one for each that cannot be served, a line for each code of these, and NO with the number of
-- the lines but those of codes
abbrev pub unserved_text : Plan → (limit spare : ℕ) → List Unserved → List Missing
    → Option (ℕ × ℕ) → List ℕ
unserved_text p limit spare unserved missing pair = head_line limit spare
    ++ (pair_line p pair ++ (flat_map (unserved_line p) unserved
    ++ (code_lines p unserved missing ++ no_line (pair_count pair + length unserved))))

-- The report of a mending, with the lists that are replaced
abbrev pub mend_report : {A : Type 0} → (limit spare : ℕ) → Mending A → List ℕ
mend_report limit spare (Mended q before cert) = mended_text before q limit spare
mend_report limit spare (NoRouting q unserved missing pair) =
    unserved_text q limit spare unserved.items missing.items pair
