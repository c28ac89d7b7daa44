use Rattle.std.proofs.Common.{◌≢◌, ◌∙◌, [], ◌++◌, length, ap, arith, append-nil}
use Rattle.tx_rank.proofs.Nets.{is_net}
use Rattle.tx_rank.proofs.Graded.{ungraded_code}
use Rattle.tx_rank.proofs.grading.code_grade.Goals as goal

pub returns-then-len-before-clause-grade : goal.returns-then-len-before-clause-grade
returns-then-len-before-clause-grade g c =
    let j = c.in_ok-rank_code.ensures.judged in
    let old = c.args.findings.now.items in
    let some : j.mine ≢ [] = λ e.
    let same = ap length (j.added ∙ ap (λ l. old ++ l) e ∙ append-nil old) in
    let before = c.len-before.ensures in
    let after = c.len.ensures in
    let more = c.if-len-before.true in
    absurd (omega arith)
    in
    ungraded_code c.args.plan.now c.requires.rules c.args.code c.requires.code j.mine j.listed some

pub invariant_of-net : goal.invariant_of-net
invariant_of-net g c = record { net = is_net c.args.plan.now c.requires.rules c.args.code c.requires.code; right = c.requires.origins }
