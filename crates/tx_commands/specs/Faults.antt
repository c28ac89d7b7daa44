-- Why words give no command, and the exit status of each.
use Rattle.std.specs.Prelude.{◌≡◌, ℕ, Bool, true, false, ◌&&◌, ◌||◌, List, Option, is_some, map, codes, IsSomeAnd}
use Rattle.std.specs.Borrow.{Bor}
use Rattle.clap.specs.Words.{Row, first_of, kind_of, subcommand_of}
use Rattle.clap.specs.declared.error.Error.{Error}
use Rattle.clap.specs.declared.error.kind.ErrorKind.{ErrorKind}
use Rattle.clap.specs.declared.error.kind.ErrorKind.TheVariants.{DisplayHelp, DisplayVersion, OutOfMemory}
use Rattle.tx_commands.specs.Grammar.{program_words}
use Rattle.tx_commands.specs.declared.fault.WordsFault.{WordsFault}
use Rattle.tx_commands.specs.declared.fault.WordsFault.TheVariants.{Clap, Together, NoMemory}

-- 0 for a request for help, 4 when memory runs out, else 64
abbrev pub status_of_kind : ErrorKind → ℕ
status_of_kind DisplayHelp = 0
status_of_kind DisplayVersion = 0
status_of_kind OutOfMemory = 4
status_of_kind other = 64

-- the exit status of words that give no command
abbrev pub status_of : WordsFault → ℕ
status_of (Clap e) = status_of_kind (kind_of e)
status_of Together = 64
status_of NoMemory = 4

-- lack of memory is reported as such
abbrev pub fault_by : Error → ErrorKind → WordsFault
fault_by e OutOfMemory = NoMemory
fault_by e kind = Clap e

-- what clap says of the words; its lack of memory is reported as such
abbrev pub fault_of_clap : Error → WordsFault
fault_of_clap e = fault_by e (kind_of e)

-- a word for this was found
abbrev pub has : List Row → List ℕ → Bool
has found id = is_some (first_of id found)

-- `run` has some of its three options, and not all
pub record IsRunInPart (name : List ℕ) (found : List Row) : Type 0 where
  pub run : name ≡ codes "run"
  pub some :
      (has found (codes "cert") || (has found (codes "limit") || has found (codes "spare"))) ≡ true
  pub not_all :
      (has found (codes "cert") && (has found (codes "limit") && has found (codes "spare"))) ≡ false

-- Why the words of a command that was found are refused. What the library reports, and lack of
-- memory, are left open.
abbrev pub IsRefusalIn : Option (List ℕ × List Row) → WordsFault → Type 0
IsRefusalIn command Together = IsSomeAnd command (λ c. IsRunInPart c.0 c.1)
IsRefusalIn command other = Unit {0}

-- the words are refused for this
abbrev pub IsRefusalOf : List (Bor (List ℕ)) → WordsFault → Type 0
IsRefusalOf words fault = IsRefusalIn (subcommand_of program_words (map (λ w. w.now) words)) fault
