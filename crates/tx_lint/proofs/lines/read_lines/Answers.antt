use Rattle.tx_lint.proofs.Common.{◌≡◌, ◌==◌, length, true, rules, progress_held, faults_held}
use Rattle.tx_text.specs.inner.TextLine.{line_of}
use Rattle.tx_lint.proofs.Agreeing.{first_number}
use Rattle.tx_lint.proofs.AllRead.{so_far_next, all_read_last, all_read_end, no_bytes}
use Rattle.tx_lint.proofs.lines.read_lines.Goals as goal

pub returns-then-not-line-clause-read : goal.returns-then-not-line-clause-read
returns-then-not-line-clause-read g c =
    let all =
    all_read_last c.args.text.now (faults_held c.loop-rest.reading) (faults_held c.take_in.new.self)
    (progress_held c.loop-rest.reading) (progress_held c.take_in.new.self) c.loop-rest.number
    c.loop-rest.rest.now c.first_line.result.1.now (line_of c.first_line.result.0) c.loop-rest.invariant
    _ c.first_line.ensures.line c.if-not-line.true c.in_ok-take_in.ensures.took.faults c.in_ok-take_in.ensures.took.progress in
    record { faults = all.0; progress = all.1 }

pub loop-rest-preserved : goal.loop-rest-preserved
loop-rest-preserved g c =
    so_far_next c.args.text.now (faults_held c.loop-rest.reading) (faults_held c.take_in.new.self)
    (progress_held c.loop-rest.reading) (progress_held c.take_in.new.self) c.loop-rest.number
    c.loop-rest.rest.now c.first_line.result.1.now (line_of c.first_line.result.0) c.loop-rest.invariant
    c.first_line.ensures.line (first_number _ _ _ _ _ c.first_line.ensures.line) c.if-not-line.false
    c.first_line.ensures.shorter c.in_ok-take_in.ensures.took.faults c.in_ok-take_in.ensures.took.progress

pub returns-clause-read : goal.returns-clause-read
returns-clause-read g c =
    let over : (length c.loop-rest.rest.now == 0) ≡ true = search rules in
    let all =
    all_read_end c.args.text.now (faults_held c.loop-rest.reading) (faults_held c.end.new.self)
    (progress_held c.loop-rest.reading) (progress_held c.end.new.self) c.loop-rest.number
    c.loop-rest.rest.now c.loop-rest.invariant (no_bytes c.loop-rest.rest.now over)
    c.in_ok-end.ensures.faults c.in_ok-end.ensures.same in
    record { faults = all.0; progress = all.1 }
