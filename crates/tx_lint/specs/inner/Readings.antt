-- What is held while the lines of a text are read.
use Rattle.std.specs.Prelude.{◌≡◌, ℕ, List, [], ◌∷◌, ◌++◌, map, if◌then◌else◌}
use Rattle.std.specs.Option.{option_map, option_to_list}
use Rattle.tx_text.specs.Text.{Line}
use Rattle.tx_plantext.specs.PlanText.{declare}
use Rattle.tx_lint.specs.declared.entry.Entry.{Entry}
use Rattle.tx_lint.specs.declared.lines.Reading.{Reading}
use Rattle.tx_lint.specs.AllFaults.{Fault, Progress, fault_in_line, word_fault, declared_on, fault_of_line, line_on, faults_of, progress_of}
use Rattle.tx_lint.specs.Lints.{fault_held}

-- what was read, as it is held
abbrev pub progress_held : {A : Type 0} → Reading A → Progress
progress_held r = record {
  part = r.part;
  version = r.version;
  plan = r.plan;
  entries = r.entries.items;
}

-- the faults, as they are held
abbrev pub faults_held : {A : Type 0} → Reading A → List Fault
faults_held r = map fault_held r.faults.items

-- the line of an entry is noted, and nothing else changes
pub record Noted {A : Type 0} (old new : Reading A) (n : ℕ) (e : Entry) : Type 0 where
  pub progress : progress_held new
      ≡ record (progress_held old) { entries = old.entries.items ++ (n, e) ∷ [] }
  pub faults : faults_held new ≡ faults_held old

-- what a line of these words declares was added, or the line was reported
pub record Declared {A : Type 0} (old new : Reading A) (n : ℕ) (ws : List (List ℕ)) : Type 0 where
  pub faults : faults_held new ≡ faults_held old
      ++ option_to_list (option_map (fault_in_line (progress_held old) n ws)
      (word_fault (declare 2 old.plan ws)))
  pub progress : progress_held new ≡ declared_on (progress_held old) n ws (declare 2 old.plan ws)

-- a line was taken in
pub record TookIn {A : Type 0} (old new : Reading A) (l : Line) : Type 0 where
  pub faults : faults_held new
      ≡ faults_held old ++ option_to_list (fault_of_line (progress_held old) l)
  pub progress : progress_held new
      ≡ (if l.finished then line_on (progress_held old) l else progress_held old)

-- the whole text was read
pub record HasRead {A : Type 0} (text : List ℕ) (r : Reading A) : Type 0 where
  pub faults : faults_held r ≡ faults_of text
  pub progress : progress_held r ≡ progress_of text
