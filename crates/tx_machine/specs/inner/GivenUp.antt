-- Calls that end, and the circuits that they give up.
use Rattle.std.specs.Prelude.{ℕ, Bool, not, ◌&&◌, ◌||◌, List}
use Rattle.std.specs.List.{list_any}
use Rattle.std.specs.FinSet as set
use Rattle.tx_plan.specs.declared.ids.Circuit.{Circuit}
use Rattle.tx_plan.specs.Among.{Among}
use Rattle.tx_machine.specs.Call.{Call, is_numbered}
use Rattle.tx_machine.specs.InUse.{seizes, uses_group}
use Rattle.tx_machine.specs.inner.Marks.{Circuits, HasMark}
use Rattle.tx_machine.specs.declared.plain.ended_calls.Ends.{Ends}
use Rattle.tx_machine.specs.declared.plain.ended_calls.Ends.TheVariants.{Numbered, Collided, OnGroup}

-- whether a call is one of those that end
abbrev pub ends_by : Ends → Call → Bool
ends_by (Numbered n) c = is_numbered n c
ends_by (Collided a a_ends b b_ends) c = (is_numbered a c && a_ends) || (is_numbered b c && b_ends)
ends_by (OnGroup g) c = uses_group g c

-- no call that goes on has seized the circuit
abbrev pub is_given : Ends → List Call → Circuit → Bool
is_given ends calls x = not (list_any (λ c. not (ends_by ends c) && seizes c x) calls)

-- with these circuits marked too
abbrev pub with_more : Circuits → List Circuit → Circuits
with_more v xs = record { marked = set.union v.marked (set.from_list xs); groups = v.groups }

-- each of the circuits has a mark
abbrev pub AreMarked : ℕ → List Circuit → Type 0
AreMarked groups xs = (x : Circuit) → Among x xs → HasMark groups x
