use Rattle.tx_files.proofs.Common.{◌≡◌, length, drop, names_in}
use Rattle.tx_files.specs.Asked.{groups_named}
use Rattle.tx_files.proofs.Asking.{behind}
use Rattle.tx_files.proofs.asked.groups_named.Given as goal

abbrev pub invariant-loop-name : goal.invariant-loop-name
invariant-loop-name g l =
    groups_named l.plan (names_in l.word)
    ≡ behind l.groups.items (groups_named l.plan (drop (length l.yielded) (names_in l.word)))
