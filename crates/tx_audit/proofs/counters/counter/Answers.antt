use Rattle.tx_audit.proofs.Common.{AllByRecursion, IsWritable, counter_of, has_counter, Shows}
use Rattle.tx_audit.proofs.Loops.{on_made, some_made}
use Rattle.tx_audit.proofs.Showing.{counters_show, counter_there}
use Rattle.tx_audit.proofs.Writable.{counter_writable}
use Rattle.tx_audit.proofs.counters.counter.Goals as goal

pub returns-clause-which : goal.returns-clause-which
returns-clause-which g c =
    let p = c.args.plan.now in
    let f = c.args.finding.now in
    some_made (λ v. v.items) (counter_of p f) (has_counter p f) c.events_of.result c.events_of.ensures (counter_there p c.rules.ensures c.args.limit c.args.spare f c.requires)

pub returns-clause-shows : goal.returns-clause-shows
returns-clause-shows g c =
    let p = c.args.plan.now in
    let f = c.args.finding.now in
    on_made (λ v. v.items) (counter_of p f) (λ es. Shows p c.args.limit c.args.spare f es) c.events_of.result c.events_of.ensures (λ es e. counters_show _ p c.args.limit c.args.spare f es c.rules.ensures c.requires e)

pub returns-clause-writable : goal.returns-clause-writable
returns-clause-writable g c =
    let p = c.args.plan.now in
    let f = c.args.finding.now in
    on_made (λ v. v.items) (counter_of p f) (λ es. AllByRecursion (IsWritable p) es) c.events_of.result c.events_of.ensures (λ es e. counter_writable p c.rules.ensures c.args.limit c.args.spare f es c.requires e)
