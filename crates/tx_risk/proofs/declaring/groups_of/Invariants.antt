use Rattle.tx_risk.proofs.Common.{◌≡◌, ◌++◌, length, filter_map, group_named}
use Rattle.tx_risk.proofs.declaring.groups_of.Given as goal

abbrev pub invariant-loop-word : goal.invariant-loop-word
invariant-loop-word g l =
    l.groups.items ++ filter_map (group_named l.plan) l.words
    ≡ filter_map (group_named l.plan) l.initial.words

abbrev pub decreases-loop-word : goal.decreases-loop-word
decreases-loop-word g l = length l.words
