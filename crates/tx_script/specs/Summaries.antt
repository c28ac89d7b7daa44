-- What is printed of a whole run, after its last line: how its calls ended, and how many circuits
-- of each group were taken at once.
use Rattle.std.specs.Prelude.{ℕ, Bool, ◌==◌, if◌then◌else◌, List, [], ◌∷◌, ◌++◌, length, codes, decimal}
use Rattle.std.specs.List.{flat_map, count_by, range_with_len}
use Rattle.tx_plan.specs.Plan.{Plan, group_name}
use Rattle.tx_plan.specs.Circuits.{count_of}
use Rattle.tx_machine.specs.declared.cause.Cause.{Cause}
use Rattle.tx_machine.specs.Causes.{causes, index_of}
use Rattle.tx_machine.specs.Ended.{Ended}
use Rattle.tx_machine.specs.State.{State}
use Rattle.tx_machine.specs.Runs.{Moment}
use Rattle.tx_tickets.specs.Texts.{cause_text}
use Rattle.tx_script.specs.Output.{tickets_made}
use Rattle.tx_script.specs.Taken.{peak}

-- two causes are one
abbrev pub same_cause : Cause → Cause → Bool
same_cause a b = index_of a == index_of b

-- how many of these calls ended by a cause
abbrev pub ended_by : List Ended → Cause → ℕ
ended_by tickets cause = count_by (λ t. same_cause t.cause cause) tickets

-- CALLS, the word of a cause or OPEN, and how many, where there are some
abbrev pub calls_line : List ℕ → ℕ → List ℕ
calls_line word n = if n == 0 then []
    else codes "CALLS " ++ (word ++ (codes " " ++ (decimal n ++ codes "\n")))

-- PEAK, a group, the most of its circuits that were taken at once, OF and how many it has, where it
-- was used
abbrev pub peak_line : Plan → ℕ → ℕ → List ℕ
peak_line p g n = if n == 0 then [] else codes "PEAK " ++ (group_name p g
    ++ (codes " " ++ (decimal n ++ (codes " OF " ++ (decimal (count_of p g) ++ codes "\n")))))

-- by how many calls ended by each cause and are open, and by the most circuits of each group
abbrev pub summary_by : Plan → (Cause → ℕ) → ℕ → (ℕ → ℕ) → List ℕ
summary_by p ended opened most = flat_map (λ cause. calls_line (cause_text cause) (ended cause))
    causes ++ (calls_line (codes "OPEN") opened ++ (flat_map
    (λ g. peak_line p g (most g)) (range_with_len 0 (length p.groups)) ++ codes "END SUMMARY\n"))

-- The summary of a run, and of the state after it
abbrev pub summary_text : Plan → List Moment → State → List ℕ
summary_text p ms s = summary_by p (ended_by (flat_map tickets_made ms))
    (length s.calls) (λ g. peak p g ms)
