-- One mistake is told once: the lines that need a name which a line at fault has left undeclared are
-- counted there.
use Rattle.std.specs.Prelude.{ℕ, zero, suc, ◌+◌, nat_le, List, [], ◌∷◌, ◌++◌, map, length, fold, if◌then◌else◌, Option, Some, None}
use Rattle.std.specs.Char.{to_ascii_uppercase}
use Rattle.std.specs.Map.{lookup}
use Rattle.std.specs.Option.{option_and_then}
use Rattle.std.specs.Str.{bytes_eq}
use Rattle.indexmap.specs.IndexMap.{insert_entry}
use Rattle.tx_text.specs.declared.frame.FaultKind.{FaultKind}
use Rattle.tx_text.specs.declared.frame.FaultKind.TheVariants.{Word}
use Rattle.tx_plan.specs.declared.refusal.PlanRefusal.TheVariants.{Unknown}
use Rattle.tx_plantext.specs.declared.fault.PlanWord.{PlanWord}
use Rattle.tx_plantext.specs.declared.fault.PlanWord.TheVariants.{Refused}
use Rattle.tx_lint.specs.AllFaults.{Fault}

-- a word as the name that was meant: in capitals, and none if it is too long for one
abbrev pub as_name : List ℕ → Option (List ℕ)
as_name w = if nat_le (length w) 8 then Some (map to_ascii_uppercase w) else None

-- of a word that is refused as unknown
abbrev pub unknown_word : FaultKind PlanWord → Option (List ℕ) → Option (List ℕ)
unknown_word (Word (Refused Unknown)) w = w
unknown_word other w = None

-- the word for what the line needs, and what is not declared
abbrev pub needed_word : Fault → Option (List ℕ)
needed_word f = unknown_word f.kind f.word

-- the name of it
abbrev pub name_needed : Fault → Option (List ℕ)
name_needed f = option_and_then as_name (needed_word f)

-- the name that the line leaves undeclared
abbrev pub name_left : Fault → Option (List ℕ)
name_left f = option_and_then as_name f.meant

-- a fault that is told, with the number of the lines that need what it has left undeclared
pub record Told : Type 0 where
  pub fault : Fault
  pub needing : ℕ

-- The faults that are told so far, and the names that are missing, each with the index of the fault
-- that it comes from
pub record Gathering : Type 0 where
  pub told : List Told
  pub missing : List (List ℕ × ℕ)

-- nothing is told yet
abbrev pub no_gathering : Gathering
no_gathering = record { told = []; missing = [] }

-- the index of the fault that a missing name comes from
abbrev pub cause_in : List (List ℕ × ℕ) → (name : List ℕ) → Option ℕ
cause_in missing name = lookup (bytes_eq name) missing

-- a name is missing, if there is one, by the fault at index i
abbrev pub noted : Option (List ℕ) → (i : ℕ) → List (List ℕ × ℕ) → List (List ℕ × ℕ)
noted None i missing = missing
noted (Some name) i missing = insert_entry bytes_eq missing name i

-- one line more needs what the fault at an index has left undeclared
abbrev pub count_at : List Told → ℕ → List Told
count_at [] i = []
count_at (t ∷ ts) zero = record t { needing = t.needing + 1 } ∷ ts
count_at (t ∷ ts) (suc i) = t ∷ count_at ts i

-- A fault that comes from the one at an index is counted there; any other is told.
abbrev pub gathered_by : Gathering → Fault → Option ℕ → Gathering
gathered_by g f (Some i) = record {
  told = count_at g.told i;
  missing = noted (name_left f) i g.missing;
}
gathered_by g f None = record {
  told = g.told ++ record { fault = f; needing = 0 } ∷ [];
  missing = noted (name_left f) (length g.told) (noted (name_needed f) (length g.told) g.missing);
}

-- one fault more
abbrev pub gathered_on : Gathering → Fault → Gathering
gathered_on g f = gathered_by g f (option_and_then (cause_in g.missing) (name_needed f))

-- What is told of faults
abbrev pub told_of : List Fault → List Told
told_of fs = (fold gathered_on no_gathering fs).told
