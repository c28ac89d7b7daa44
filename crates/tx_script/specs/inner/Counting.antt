-- What is kept of a run for its summary, and how it follows the run, by replies and tickets.
use Rattle.std.specs.Prelude.{ℕ, ◌+◌, ◌<◌, ◌^◌, ◌≡◌, Bool, true, false, not, ◌&&◌, ◌||◌, ◌==◌, if◌then◌else◌, max, List, [], ◌∷◌, ◌++◌, length, slice_set, get_or, replicate, Option, None, Some, is_some}
use Rattle.std.specs.List.{count_by}
use Rattle.tx_plan.specs.Orders.{same_circuit}
use Rattle.tx_plan.specs.Plan.{Plan}
use Rattle.tx_plan.specs.Circuits.{count_of, upward}
use Rattle.tx_plan.specs.declared.ids.Circuit.{Circuit}
use Rattle.tx_machine.specs.declared.cause.Cause.{Cause}
use Rattle.tx_machine.specs.declared.event.Event.{Event}
use Rattle.tx_machine.specs.declared.event.Event.TheVariants.{Route, Released, Fail}
use Rattle.tx_machine.specs.declared.reply.Reply.{Reply}
use Rattle.tx_machine.specs.declared.reply.Reply.TheVariants.{Seized}
use Rattle.tx_machine.specs.Ended.{Ended}
use Rattle.tx_machine.specs.Runs.{Moment}
use Rattle.tx_machine.specs.State.{State}
use Rattle.tx_machine.specs.Sound.{is_refused}
use Rattle.tx_script.specs.Output.{tickets_made, end_text}
use Rattle.tx_machine.specs.Causes.{index_of}
use Rattle.tx_script.specs.Summaries.{summary_by}
use Rattle.tx_script.specs.TellingAnswers.{NoneReleasing}
use Rattle.tx_script.specs.declared.group_use.GroupUse.{GroupUse}
use Rattle.tx_script.specs.declared.teller.Telling.{Telling}

-- how many calls ended, by the indexes of their causes, and a row for each group
pub record Counted : Type 0 where
  pub calls : List ℕ
  pub groups : List GroupUse

-- a circuit that is seized is taken
abbrev pub still_routed : Reply → Circuit → Bool → Bool
still_routed (Seized x) y was = same_circuit x y || was
still_routed other y was = was

-- whether a circuit is taken after an event, where it was taken before or not
abbrev pub still : Event → Reply → Circuit → Bool → Bool
still (Route n) r y was = still_routed r y was
still (Released x) r y was = if is_refused r then was else not (same_circuit x y) && was
still (Fail g) r y was = if is_refused r then was else not (y.group == g) && was
still other r y was = was

-- no circuit is taken, and none was
abbrev pub idle : GroupUse
idle = record { taken = replicate 241 false; most = 0 }

-- how many of so many circuits are marked
abbrev pub count_in : List Bool → ℕ → ℕ
count_in taken circuits = count_by (λ n. get_or taken n false) (upward circuits)

-- a circuit is taken, or is not
abbrev pub with_mark : ℕ → Bool → GroupUse → GroupUse
with_mark n taken u = record u { taken = slice_set u.taken n taken }

-- of a group that has so many circuits
abbrev pub with_most : ℕ → GroupUse → GroupUse
with_most circuits u = record u { most = max u.most (count_in u.taken circuits) }

-- no circuit is taken any more
abbrev pub no_marks : GroupUse → GroupUse
no_marks u = record u { taken = replicate 241 false }

-- the use of a group
abbrev pub use_at : List GroupUse → ℕ → GroupUse
use_at us g = get_or us g idle

-- the use of one group is changed
abbrev pub change_at : ℕ → (GroupUse → GroupUse) → List GroupUse → List GroupUse
change_at i change us = slice_set us i (change (use_at us i))

-- what a Route takes
abbrev pub uses_routed : Plan → Reply → List GroupUse → List GroupUse
uses_routed p (Seized x) us = change_at x.group
    (λ u. with_most (count_of p x.group) (with_mark x.number true u)) us
uses_routed p other us = us

-- what an event and its reply take and give back
abbrev pub uses_after : Plan → Event → Reply → List GroupUse → List GroupUse
uses_after p (Route n) r us = uses_routed p r us
uses_after p (Released x) r us = if is_refused r
    then us else change_at x.group (with_mark x.number false) us
uses_after p (Fail g) r us = if is_refused r then us else change_at g no_marks us
uses_after p other r us = us

-- how many calls ended by a cause
abbrev pub count_for : List ℕ → Cause → ℕ
count_for calls cause = get_or calls (index_of cause) 0

-- one call more ended by a cause
abbrev pub one_ended : List ℕ → Cause → List ℕ
one_ended calls cause = slice_set calls (index_of cause) (count_for calls cause + 1)

-- some calls more ended
abbrev pub all_ended : List ℕ → List Ended → List ℕ
all_ended calls [] = calls
all_ended calls (t ∷ ts) = all_ended (one_ended calls t.cause) ts

-- nothing was counted yet
abbrev pub nothing_counted : Plan → Counted
nothing_counted p = record { calls = replicate 9 0; groups = replicate (length p.groups) idle }

-- one call more ended
abbrev pub one_counted : Cause → Counted → Counted
one_counted cause c = record c { calls = one_ended c.calls cause }

-- some calls more ended
abbrev pub ends_counted : List Ended → Counted → Counted
ends_counted ts c = record c { calls = all_ended c.calls ts }

-- an event and its reply were followed
abbrev pub uses_counted : Plan → Event → Reply → Counted → Counted
uses_counted p e r c = record c { groups = uses_after p e r c.groups }

-- one event more
abbrev pub counted_on : Plan → Moment → Counted → Counted
counted_on p m c = ends_counted (tickets_made m) (uses_counted p m.event m.reply c)

-- some events more
abbrev pub counted_over : Plan → List Moment → Counted → Counted
counted_over p [] c = c
counted_over p (m ∷ ms) c = counted_over p ms (counted_on p m c)

-- what is counted for a summary, if one is asked for
abbrev pub counts_for : Plan → (summary : Bool) → Option Counted
counts_for p summary = if summary then Some (nothing_counted p) else None

-- what is asked for, by what is kept
abbrev pub asked_of : (echo : Bool) → Option Counted → Telling
asked_of echo counts = record { echo = echo; summary = is_some counts }

-- where calls are counted there is room for more
abbrev pub AreFew : Option Counted → Type 0
AreFew None = Unit {0}
AreFew (Some c) = (k : ℕ) → get_or c.calls k 0 < 2 ^ 63

-- nothing was counted yet, and no circuit is taken
abbrev pub AreNew : Plan → State → Option Counted → Type 0
AreNew p s None = Unit {0}
AreNew p s (Some c) = (c ≡ nothing_counted p) × NoneReleasing s

-- the text of what was counted, and of so many open calls
abbrev pub counts_text : Plan → Counted → ℕ → List ℕ
counts_text p c opened = summary_by p (count_for c.calls) opened (λ g. (use_at c.groups g).most)

-- the summary, if one is asked for
abbrev pub asked_text : Plan → Option Counted → ℕ → List ℕ
asked_text p None opened = []
asked_text p (Some c) opened = counts_text p c opened

-- the lines after those of all events
abbrev pub last_lines : Plan → Option Counted → State → List ℕ
last_lines p counts s = end_text s ++ asked_text p counts (length s.calls)
