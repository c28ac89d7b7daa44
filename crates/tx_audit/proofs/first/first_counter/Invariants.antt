use Rattle.tx_audit.proofs.Common.{◌≡◌, drop, list_any, has_counter, first_counter_of}
use Rattle.tx_audit.proofs.first.first_counter.Given as goal

abbrev pub invariant-loop-finding : goal.invariant-loop-finding
invariant-loop-finding g l = record {
  events : first_counter_of l.plan l.findings ≡ first_counter_of l.plan (drop l.finding-index l.findings);
  which : list_any (has_counter l.plan) l.findings ≡ list_any (has_counter l.plan) (drop l.finding-index l.findings);
}
