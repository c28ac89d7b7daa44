-- What is known of marks, and of the ranks that a trace keeps.
use Rattle.std.specs.Prelude.{◌≡◌, ℕ, ◌<◌, Bool, List, length, Option, Some, slice_get}
use Rattle.tx_plan.specs.Plan.{Plan}
use Rattle.tx_cert.specs.Certificate.{Certificate}
use Rattle.tx_rank.specs.Heights.{IsReached}
use Rattle.tx_trace.specs.Ways.{is_in}
use Rattle.tx_trace.specs.Heights.{rank_from}
use Rattle.tx_trace.specs.Ranked.{net_from}
use Rattle.tx_trace.specs.Traces.{rank_told}

-- each exchange that such calls come to has its rank
abbrev pub AreRanksFrom : Plan → (c x : ℕ) → Option Certificate → Type 0
AreRanksFrom p c x cert =
    (y : ℕ) → IsReached (net_from p c x) y → rank_told cert c y ≡ rank_from p c x y

-- each mark says whether its index is in the list
abbrev pub AreMarksOf : List ℕ → List Bool → Type 0
AreMarksOf xs marks = (y : ℕ) → y < length marks → slice_get marks y ≡ Some (is_in y xs)
