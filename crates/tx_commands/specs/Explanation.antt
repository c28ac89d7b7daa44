-- What is written of codes.
use Rattle.std.specs.Prelude.{ℕ, List, [], ◌++◌, if◌then◌else◌, Option, Some, None, codes}
use Rattle.std.specs.List.{flat_map}
use Rattle.tx_commands.specs.Entries.{Texts, table, is_asked}

-- a line of the list of all codes
abbrev pub entry_line : Texts → List ℕ
entry_line t = t.0 ++ (codes " " ++ (t.1 ++ (codes ": " ++ (t.2 ++ codes "\n"))))

-- all that the table has of one code
abbrev pub entry_text : Texts → List ℕ
entry_text t =
    t.0 ++ (codes " " ++ (t.1 ++ (codes "\n"
    ++ (t.2 ++ (codes "\nWhat to do: " ++ (t.3 ++ codes "\n"))))))

-- what is written of an entry: all of it if the line asks for it; without one, its own line
abbrev pub told_text : Option (List ℕ) → Texts → List ℕ
told_text None t = entry_line t
told_text (Some line) t = if is_asked line t then entry_text t else []

-- what is written: of each entry that the line asks for, or of all
abbrev pub explanation_text : Option (List ℕ) → List ℕ
explanation_text line = flat_map (told_text line) table
