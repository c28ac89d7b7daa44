-- Marks for the groups of a plan.
use Rattle.std.specs.Prelude.{◌≡◌, ℕ}
use Rattle.std.specs.FinSet as set
use Rattle.tx_machine.specs.declared.plain.marks.Marks.{Marks}

module _ {A : Type 0} where
  -- no mark, among so many groups
  abbrev pub no_marks : ℕ → Marks A
  no_marks n =
      record {
        failed = record { marked = set.empty; groups = n };
        blocked = record { marked = set.empty; groups = n };
        releasing = record { marked = set.empty; groups = n };
        out = record { marked = set.empty; groups = n };
      }

  -- marks for so many groups
  pub record AreFor (n : ℕ) (m : Marks A) : Type 0 where
    pub failed : m.failed.groups ≡ n
    pub blocked : m.blocked.groups ≡ n
    pub releasing : m.releasing.groups ≡ n
    pub out : m.out.groups ≡ n
