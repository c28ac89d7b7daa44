use Rattle.tx_lint.proofs.Common.{◌≡◌, ◌∙◌, ◌==◌, length, true, false, ap, arith, rules, Progress, faults_of, told_of}
use Rattle.tx_lint.proofs.Linted.{some_faults, no_faults}
use Rattle.tx_lint.proofs.linting.look_through.Goals as goal

pub returns-then-not-is_empty-clause-look : goal.returns-then-not-is_empty-clause-look
returns-then-not-is_empty-clause-look g c =
    let told = c.in_ok-plan.field-0.faults in
    let k = told.ok.0 in
    let long : told.len ≡ length told.items = omega arith in
    let some : (told.len == 0) ≡ false = search rules in
    let read = c.in_ok-plan.ensures.read.faults in
    ((rw c.deref.ensures.value at c.in_ok-gather.ensures) ∙ ap told_of read, some_faults told.items (faults_of c.args.text.now) told.len long some read)

pub returns-clause-look : goal.returns-clause-look
returns-clause-look g c =
    let text = c.args.text.now in
    let read = c.in_ok-plan.field-0 in
    let told = read.faults in
    let k = told.ok.0 in
    let long : told.len ≡ length told.items = omega arith in
    let none : (told.len == 0) ≡ true = search rules in
    let plan : c.finish-plan.result ≡ read.plan = search rules in
    let same = c.in_ok-plan.ensures.read.progress in (
      no_faults told.items (faults_of text) told.len long none c.in_ok-plan.ensures.read.faults,
      λ j. ((plan ∙ ap (λ (q : Progress). q.plan) same) j, ap (λ (q : Progress). q.entries) same j),
    )
