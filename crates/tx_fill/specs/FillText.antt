-- What calls that were set up one after another came to, as it is written.
use Rattle.std.specs.Prelude.{ℕ, List, ◌++◌, codes, decimal, Option, None, Some}
use Rattle.std.specs.List.{flat_map}
use Rattle.tx_plan.specs.Plan.{Plan, exchange_name, figures_of, group_name}
use Rattle.tx_machine.specs.declared.cause.Cause.{Cause}
use Rattle.tx_tickets.specs.Texts.{cause_text}
use Rattle.tx_trace.specs.TraceText.{down_line}
use Rattle.tx_fill.specs.declared.filling.Fill.{Fill}

-- what was asked, as in `FILL 24 FROM NORTH`
abbrev pub head_line : Plan → (c x : ℕ) → List ℕ
head_line p c x =
    codes "FILL " ++ (figures_of p c ++ (codes " FROM " ++ (exchange_name p x ++ codes "\n")))

-- how many calls stand, as in `CALLS 30`
abbrev pub calls_line : ℕ → List ℕ
calls_line n = codes "CALLS " ++ (decimal n ++ codes "\n")

-- how the next call was answered, and where; or that no line was left to call or to be called
abbrev pub next_line : Plan → Option (Cause × ℕ) → List ℕ
next_line p None = codes "NO LINE\n"
next_line p (Some (cause, x)) =
    codes "ANSWERED " ++ (cause_text cause ++ (codes " AT " ++ (exchange_name p x ++ codes "\n")))

-- a group that is full
abbrev pub full_line : Plan → (g : ℕ) → List ℕ
full_line p g = codes "FULL " ++ (group_name p g ++ codes "\n")

-- What was asked, the groups that are down, how many calls stand, how the next one was answered,
-- and the groups that are full
abbrev pub fill_text : {A : Type 0} → Plan → (down : List ℕ) → (c x : ℕ) → Fill A → List ℕ
fill_text p down c x f =
    head_line p c x ++ (down_line p down ++ (calls_line f.calls ++ (next_line p f.next
    ++ flat_map (full_line p) f.full.items)))
