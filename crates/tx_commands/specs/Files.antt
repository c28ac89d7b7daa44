-- The files of commands, by their names.
use Rattle.std.specs.Prelude.{ℕ, Bool, List, [], ◌∷◌, Option, None, Some, map, option_map, codes, string_bytes, String}
use Rattle.std.specs.Borrow.{Bor}
use Rattle.tx_plan.specs.declared.limits.Limits.{Limits}
use Rattle.tx_commands.specs.declared.command.Command.{Command}
use Rattle.tx_commands.specs.declared.command.Command.TheVariants.{Pipe, Run, RunTelling, Check, Lint, Codes, Audit, Change, Order, Mend, Survive, Compare, Page, Grade, Trace, TraceThrough, TraceChanges, Fill, Explain}
use Rattle.tx_commands.specs.declared.files.Files.{Files}
use Rattle.tx_commands.specs.declared.page.PageRequest.{PageRequest}
use Rattle.tx_commands.specs.declared.run.RunRequest.{RunRequest}
use Rattle.tx_commands.specs.declared.survive.CompareRequest.{CompareRequest}
use Rattle.tx_commands.specs.declared.survive.SurviveRequest.{SurviveRequest}

-- the values of those that have one
abbrev pub values_of : {A : Type 0} → List (Option A) → List A
values_of [] = []
values_of (None ∷ rest) = values_of rest
values_of (Some value ∷ rest) = value ∷ values_of rest

-- the names of these files, where there are any, as a function sees them
abbrev pub names_if_any : List (Option (Bor (List ℕ))) → List (Option (List ℕ))
names_if_any files = map (option_map (λ f. f.now)) files

-- those alone
abbrev pub names : List (Option (Bor (List ℕ))) → List (List ℕ)
names files = values_of (names_if_any files)

-- the name of standard input, where a file is read
abbrev pub standard_input : List ℕ
standard_input = codes "-"

-- the files of a command: those that it reads, as they are opened, and those that it may make, by
-- what goes into them
pub record FileNames : Type 0 where
  pub reads : List (Option (List ℕ))
  pub plan : Option (List ℕ)
  pub cert : Option (List ℕ)
  pub script : Option (List ℕ)
  pub page : Option (List ℕ)

-- as a function sees them
abbrev pub names_of : Files → FileNames
names_of f = record {
  reads = names_if_any f.reads;
  plan = option_map (λ n. n.now) f.plan;
  cert = option_map (λ n. n.now) f.cert;
  script = option_map (λ n. n.now) f.script;
  page = option_map (λ n. n.now) f.page;
}

-- these are read, and none is made
abbrev pub only_read : List (Option (List ℕ)) → FileNames
only_read reads = record { reads = reads; plan = None; cert = None; script = None; page = None }

-- one file is read
abbrev pub one_read : List ℕ → FileNames
one_read file = only_read (Some file ∷ None ∷ None ∷ [])

-- two files are read
abbrev pub two_read : List ℕ → List ℕ → FileNames
two_read first second = only_read (Some first ∷ Some second ∷ None ∷ [])

-- those of a run: the certificate, if there is one, before the script
abbrev pub run_files_by : {Z : Type 0} → (plan script : List ℕ) → Option (String Z × Limits)
    → FileNames
run_files_by plan script None = two_read plan script
run_files_by plan script (Some (cert, limits)) =
    only_read (Some plan ∷ Some (string_bytes cert) ∷ Some script ∷ [])

abbrev pub run_files : RunRequest → FileNames
run_files r = run_files_by (string_bytes r.plan) (string_bytes r.script) r.checked

-- those of `survive`, with the named risks, if there are any
abbrev pub survive_files_by : {Z : Type 0} → (plan : List ℕ) → Option (String Z × Bool)
    → FileNames
survive_files_by plan None = one_read plan
survive_files_by plan (Some (risks, only)) = two_read plan (string_bytes risks)

abbrev pub survive_files : SurviveRequest → FileNames
survive_files r = survive_files_by (string_bytes r.plan) r.risks

-- with an old plan, it and the new one come before the named risks
abbrev pub compare_files_by : {Z : Type 0} → (old new : List ℕ) → Option (String Z × Bool)
    → FileNames
compare_files_by old new None = two_read old new
compare_files_by old new (Some (risks, only)) =
    only_read (Some old ∷ Some new ∷ Some (string_bytes risks) ∷ [])

abbrev pub compare_files : CompareRequest → FileNames
compare_files r = compare_files_by (string_bytes r.old) (string_bytes r.new) r.risks

-- those of `page`
abbrev pub page_files : PageRequest → FileNames
page_files r = record (only_read (Some (string_bytes r.plan) ∷ option_map string_bytes r.risks
    ∷ option_map string_bytes r.old ∷ [])) {
      page = option_map string_bytes r.html;
    }

-- those of a command; without words it is standard input that is read
abbrev pub file_names : Command → FileNames
file_names Pipe = one_read standard_input
file_names (Run r) = run_files r
file_names (RunTelling r) = run_files r.run
file_names (Check r) = two_read (string_bytes r.plan) (string_bytes r.cert)
file_names (Lint r) =
    only_read (Some (string_bytes r.plan) ∷ option_map string_bytes r.risks ∷ None ∷ [])
file_names (Codes r) = one_read (string_bytes r.plan)
file_names (Audit r) = record (one_read (string_bytes r.plan)) {
  cert = option_map string_bytes r.cert;
  script = option_map string_bytes r.counter;
}
file_names (Change r) = record (two_read (string_bytes r.old) (string_bytes r.new)) {
  plan = option_map string_bytes r.mixture;
  cert = option_map string_bytes r.cert;
  script = option_map string_bytes r.counter;
}
file_names (Order r) = record (only_read (Some (string_bytes r.old) ∷ Some (string_bytes r.new)
    ∷ option_map string_bytes r.done ∷ [])) {
      plan = option_map string_bytes r.plan;
      cert = option_map string_bytes r.cert;
    }
file_names (Mend r) = record (one_read (string_bytes r.plan)) {
  plan = option_map string_bytes r.mended;
  cert = option_map string_bytes r.cert;
}
file_names (Survive r) = survive_files r
file_names (Compare r) = compare_files r
file_names (Page r) = page_files r
file_names (Grade r) = one_read (string_bytes r.plan)
file_names (Trace r) = one_read (string_bytes r.plan)
file_names (TraceThrough r) = one_read (string_bytes r.plan)
file_names (TraceChanges r) = two_read (string_bytes r.plan) (string_bytes r.old)
file_names (Fill r) = one_read (string_bytes r.plan)
file_names (Explain r) = only_read (None ∷ None ∷ None ∷ [])

-- the names of those that it reads
abbrev pub files_read : Command → List (List ℕ)
files_read command = values_of (file_names command).reads

-- the names of those that it may make, in the order in which they are made
abbrev pub files_made : Command → List (List ℕ)
files_made command = let f = file_names command in
    values_of (f.plan ∷ f.cert ∷ f.script ∷ f.page ∷ [])
