-- Why the words of a command that was found are refused.
use Rattle.std.specs.Prelude.{◌≡◌, ℕ, Bool, true, false, not, ◌&&◌, ◌||◌, List, Option, Some, option_map, codes, IsSomeAnd}
use Rattle.clap.specs.Words.{Row}
use Rattle.tx_commands.specs.Entries.{is_known}
use Rattle.tx_commands.specs.Commands.{IsFoundIn, is_set, line_of}
use Rattle.tx_commands.specs.Clashes.{reads_input_twice, overwrites}
use Rattle.tx_commands.specs.Faults.{has, IsRunInPart}
use Rattle.tx_commands.specs.declared.command.Command.{Command}
use Rattle.tx_commands.specs.declared.misuse.Misuse.{Misuse}
use Rattle.tx_commands.specs.declared.misuse.Misuse.TheVariants.{Together, StageMissing, RisksOnly, TraceWords, NoSuchCode, InputTwice, Overwrites, NoMemory}

-- `order` has a file to be made, or words that say where it was stopped, and no stage
pub record IsStageMissing (name : List ℕ) (found : List Row) : Type 0 where
  pub order : name ≡ codes "order"
  pub some : ((has found (codes "plan") || has found (codes "cert"))
      || ((has found (codes "done") || is_set found (codes "back"))
      || has found (codes "spare-now"))) ≡ true
  pub none : has found (codes "stage") ≡ false

-- `survive` is to try the named risks alone, and none are named
pub record IsRisksOnly (name : List ℕ) (found : List Row) : Type 0 where
  pub survive : name ≡ codes "survive"
  pub only : is_set found (codes "risks-only") ≡ true
  pub none : has found (codes "risks") ≡ false

-- words of `trace` go together: an exchange and a code, or `--through`, or `--from` alone or with
-- an exchange and a code; and `--down` does not go with `--from`
abbrev pub trace_words_fit : (exchange code down through from : Bool) → Bool
trace_words_fit exchange code down through from = not (down && from)
    && (((exchange && code) && not through)
    || (not (exchange || code) && ((through || from) && not (through && from))))

-- those of this `trace` do not
pub record IsTraceInPart (name : List ℕ) (found : List Row) : Type 0 where
  pub trace : name ≡ codes "trace"
  pub unfit : trace_words_fit (has found (codes "exchange")) (has found (codes "code"))
      (has found (codes "down")) (has found (codes "through")) (has found (codes "from")) ≡ false

-- `explain` has words that ask for no entry of the table
pub record IsNoCode (name : List ℕ) (found : List Row) : Type 0 where
  pub explain : name ≡ codes "explain"
  pub unknown : option_map is_known (line_of found (codes "word")) ≡ Some false

-- two files of the command clash in this way, or memory ran out for the name of one
abbrev pub IsClash : Command → Misuse → Type 0
IsClash command InputTwice = reads_input_twice command ≡ true
IsClash command (Overwrites name) = overwrites command ≡ true
IsClash command NoMemory = Unit {0}
IsClash command other = ⊥

-- the words that were found ask for a command of which two files clash in this way
abbrev pub AskForClash : Option (List ℕ × List Row) → Misuse → Type 0
AskForClash found refusal = (command : Command) × IsFoundIn found command × IsClash command refusal

-- The words that were found are refused for this. That a word is missing, and lack of memory, are
-- left open.
abbrev pub IsRefused : Option (List ℕ × List Row) → Misuse → Type 0
IsRefused command Together = IsSomeAnd command (λ c. IsRunInPart c.0 c.1)
IsRefused command StageMissing = IsSomeAnd command (λ c. IsStageMissing c.0 c.1)
IsRefused command RisksOnly = IsSomeAnd command (λ c. IsRisksOnly c.0 c.1)
IsRefused command TraceWords = IsSomeAnd command (λ c. IsTraceInPart c.0 c.1)
IsRefused command (NoSuchCode word) = IsSomeAnd command (λ c. IsNoCode c.0 c.1)
IsRefused command InputTwice = AskForClash command InputTwice
IsRefused command (Overwrites name) = AskForClash command (Overwrites name)
IsRefused command other = Unit {0}
