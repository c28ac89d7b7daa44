-- What a page shows of what was judged, and of the verdict.
use Rattle.std.specs.Prelude.{ℕ, Bool, true, false, ◌==◌, if◌then◌else◌, List, [], ◌∷◌, ◌++◌, length, map, codes, decimal}
use Rattle.hex.specs.Hex.{encode_lower}
use Rattle.tx_html.specs.Amounts.{amount}
use Rattle.tx_plan.specs.Plan.{Plan}
use Rattle.tx_page_change.specs.Counts.{lines_in, origins_in}

abbrev pub verdict_word : (safe : Bool) → List ℕ
verdict_word true = codes "YES"
verdict_word false = codes "NO"

-- the name in the title, and above the page
abbrev pub start_texts : List ℕ → Bool → List (List ℕ)
start_texts name safe = name ∷ verdict_word safe ∷ name ∷ []

-- the verdict, and the numbers for which it was asked
abbrev pub verdict_texts : Bool → (limit spare : ℕ) → List (List ℕ)
verdict_texts safe limit spare = verdict_word safe ∷ decimal limit ∷ decimal spare ∷ []

-- the numbers in the sentence that says what a YES promises
abbrev pub promise_texts : Bool → (limit spare : ℕ) → List (List ℕ)
promise_texts true limit spare = decimal limit ∷ decimal spare ∷ []
promise_texts false limit spare = []

-- exchanges, codes, groups, lists, lines, and exchanges where calls start
abbrev pub count_texts : Plan → List (List ℕ)
count_texts p = map amount (length p.exchanges ∷ length p.codes ∷ length p.groups
    ∷ length p.routes ∷ lines_in p ∷ origins_in p ∷ [])

-- a warning, if there is no line
abbrev pub warning_texts : (lines : ℕ) → List (List ℕ)
warning_texts lines = if lines == 0 then codes "no line" ∷ [] else []

-- the digest of the plan's text, and the version of the program
abbrev pub digest_texts : (digest version : List ℕ) → List (List ℕ)
digest_texts digest version = encode_lower digest ∷ version ∷ []

-- what was judged, and the verdict
abbrev pub heading_texts : (name digest version : List ℕ) → Plan → Bool → (limit spare : ℕ)
    → List (List ℕ)
heading_texts name digest version p safe limit spare = start_texts name safe
    ++ (count_texts p ++ (warning_texts (lines_in p) ++ (digest_texts digest version
    ++ (verdict_texts safe limit spare ++ promise_texts safe limit spare))))
