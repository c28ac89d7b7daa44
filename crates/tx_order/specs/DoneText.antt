-- The grammar of texts that say what is switched already: what each line says after those before it.
use Rattle.std.specs.Prelude.{ℕ, Bool, true, false, not, ◌||◌, if◌then◌else◌, List, [], ◌∷◌, ◌++◌, Option, None, Some, Result, Ok, Err, codes}
use Rattle.std.specs.Result.{result_map_both}
use Rattle.std.specs.Str.{bytes_eq}
use Rattle.tx_text.specs.declared.frame.FaultKind.{FaultKind}
use Rattle.tx_text.specs.declared.frame.FaultKind.TheVariants.{Frame, Word}
use Rattle.tx_text.specs.Ends.{Input}
use Rattle.tx_text.specs.Rows.{Row, frame_row}
use Rattle.tx_text.specs.Said.{ReadsText}
use Rattle.tx_plan.specs.declared.ids.Pair.{Pair}
use Rattle.tx_plan.specs.Declaring.{pair_named}
use Rattle.tx_plan.specs.Routes.{route_list, is_barred}
use Rattle.tx_order.specs.declared.done.DoneWord.{DoneWord}
use Rattle.tx_order.specs.declared.done.DoneWord.TheVariants.{WrongCount, UnknownName, NotSwitched, NoMemory}
use Rattle.tx_order.specs.Ordered.{Order, plan_before}

-- a bar is set or lifted
abbrev pub differ : (was is : Bool) → Bool
differ true is = not is
differ false is = is

-- the stages up to stage n switch the list or the bar of an exchange for a code
abbrev pub switches : Order → (n : ℕ) → Pair → Bool
switches o n p = not (bytes_eq (route_list (plan_before o 0) p.exchange p.code)
    (route_list (plan_before o n) p.exchange p.code))
    || differ (is_barred (plan_before o 0) p.exchange p.code)
    (is_barred (plan_before o n) p.exchange p.code)

-- a pair that has a name, if these stages switch it
abbrev pub pair_if : Order → ℕ → Option Pair → Result Pair DoneWord
pair_if o n None = Err UnknownName
pair_if o n (Some p) = if switches o n p then Ok p else Err NotSwitched

-- the exchange and the code that a line names
abbrev pub pair_said : Order → ℕ → List (List ℕ) → Result Pair DoneWord
pair_said o n (x ∷ c ∷ []) = pair_if o n (pair_named o.transition.old x c)
pair_said o n words = Err WrongCount

-- what a line says of stage n of an order after the lines before it; there is one version
abbrev pub declare : Order × ℕ → ℕ → List Pair → List (List ℕ) → Result (List Pair) DoneWord
declare s v pairs words =
    result_map_both (λ p. pairs ++ p ∷ []) (λ word. word) (pair_said s.0 s.1 words)

-- no memory was left
abbrev pub is_memory : DoneWord → Bool
is_memory NoMemory = true
is_memory word = false

-- what the reader of such a text answers
abbrev pub ReadsDone : Order → ℕ → Input → Result (List Pair) (ℕ × FaultKind DoneWord) → Type 0
ReadsDone o n = ReadsText (declare (o, n)) is_memory (codes "DONE") 1 []

-- the code and the name of a fault of a line's words
abbrev pub word_row : DoneWord → Row
word_row WrongCount = (codes "D1", codes "WrongCount")
word_row UnknownName = (codes "D2", codes "UnknownName")
word_row NotSwitched = (codes "D3", codes "NotSwitched")
word_row NoMemory = (codes "D7", codes "NoMemory")

-- of any fault
abbrev pub fault_row : FaultKind DoneWord → Row
fault_row (Frame fault) = frame_row (codes "D4") (codes "D5") (codes "D6") (codes "D8") fault
fault_row (Word word) = word_row word
