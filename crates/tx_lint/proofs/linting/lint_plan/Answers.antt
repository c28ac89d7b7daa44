use Rattle.tx_lint.proofs.Common.{[], map, faults_of, progress_of, told_held}
use Rattle.tx_lint.proofs.Linted.{faulty_is, right_is}
use Rattle.tx_lint.proofs.linting.lint_plan.Goals as goal

pub returns-in-Faults-clause-lint : goal.returns-in-Faults-clause-lint
returns-in-Faults-clause-lint g c =
    let text = c.args.text.now in
    let look = rw c.in-Faults.is at c.in_ok-faults.ensures.look in
    faulty_is (faults_of text) (progress_of text) [] (map told_held c.in-Faults.faults.items) look.0
    look.1

pub returns-in_ok-warned-in-Right-clause-lint : goal.returns-in_ok-warned-in-Right-clause-lint
returns-in_ok-warned-in-Right-clause-lint g c =
    let text = c.args.text.now in
    let look = rw c.in-Right.is at c.in_ok-faults.ensures.look in
    right_is (faults_of text) (progress_of text) [] c.in-Right.right _ look.0 look.1
    (rw c.none.ensures at c.in_ok-warned-in-Right.ensures)
