use Rattle.tx_plan.proofs.Common.{◌≡◌, ◌<◌, ◌≤◌, ◌++◌, ◌||◌, true, false, not, map, length, list_any, is_name, has_group, is_not_outgoing, group_at}
use Rattle.tx_plan.proofs.route_scan.scan.Given as goal

abbrev pub invariant-loop-word : goal.invariant-loop-word
invariant-loop-word g l = record {
  bad : list_any (λ w. not (is_name w)) l.initial.words ≡ (l.scan.bad || list_any (λ w. not (is_name w)) l.words);
  unknown : list_any (λ w. not (has_group l.plan w)) l.initial.words ≡ (l.scan.unknown || list_any (λ w. not (has_group l.plan w)) l.words);
  not_outgoing : list_any (is_not_outgoing l.plan l.pair) l.initial.words ≡ (l.scan.not_outgoing || list_any (is_not_outgoing l.plan l.pair) l.words);
  many : l.scan.many ≡ true → 16 < length l.initial.words;
  short : l.scan.many ≡ false → length l.scan.list.items ≤ 16;
  list : l.scan.many ≡ false → map (group_at l.plan) l.initial.words ≡ l.scan.list.items ++ map (group_at l.plan) l.words;
}

abbrev pub decreases-loop-word : goal.decreases-loop-word
decreases-loop-word g l = length l.words
