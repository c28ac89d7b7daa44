-- Events that make a fact so, or no longer so.
use Rattle.std.specs.Prelude.{Bool, not, if◌then◌else◌}
use Rattle.tx_machine.specs.declared.refusal.Refusal.{Refusal}
use Rattle.tx_machine.specs.declared.refusal.Refusal.TheVariants.{AlreadySo, NotSo}

-- the fact is as the event would make it: `is` now, and `will` be
abbrev pub is_already : Bool → Bool → Bool
is_already is will = if will then is else not is

-- the refusal of an event that would change nothing
abbrev pub no_change : Bool → Refusal
no_change will = if will then AlreadySo else NotSo
