-- Where two files of a command clash.
use Rattle.std.specs.Prelude.{ℕ, Bool, false, ◌&&◌, ◌||◌, List, [], ◌∷◌, bytes_eq}
use Rattle.std.specs.List.{list_any}
use Rattle.tx_commands.specs.declared.command.Command.{Command}
use Rattle.tx_commands.specs.Files.{standard_input, files_read, files_made}

-- the file is one of these, where this says whether two are the same
abbrev pub is_among : {A : Type 0} → (A → A → Bool) → List A → A → Bool
is_among same files file = list_any (λ f. same f file) files

-- standard input is one of these files, and one of those after it
abbrev pub has_input_twice : List (List ℕ) → Bool
has_input_twice [] = false
has_input_twice (file ∷ rest) =
    (bytes_eq file standard_input && is_among bytes_eq rest standard_input) || has_input_twice rest

-- one of the files to be made is a known one, or is to be made again after
abbrev pub has_clash : {A : Type 0} → (A → A → Bool) → (known made : List A) → Bool
has_clash same known [] = false
has_clash same known (file ∷ rest) =
    (is_among same known file || is_among same rest file) || has_clash same known rest

-- standard input is to be read for two files
abbrev pub reads_input_twice : Command → Bool
reads_input_twice command = has_input_twice (files_read command)

-- a file to be made is one that is read, or another one to be made, or has the name of standard
-- input: they are named by the same bytes
abbrev pub overwrites : Command → Bool
overwrites command =
    has_clash bytes_eq (standard_input ∷ files_read command) (files_made command)
