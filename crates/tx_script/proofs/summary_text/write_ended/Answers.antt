use Rattle.tx_script.proofs.Common.{◌<◌, ◌≤◌, length, arith, cause_text, Cause, ALL, calls_line, count_for}
use Rattle.std.proofs.lemmas.List.{get_or_default}
use Rattle.tx_text.proofs.Putting.{puts_none, puts_more, puts_all}
use Rattle.tx_script.proofs.summary_text.write_ended.Goals as goal

pub loop-cause-init : goal.loop-cause-init
loop-cause-init g c = puts_none

pub loop-cause-preserved : goal.loop-cause-preserved
loop-cause-preserved g c =
    let low : c.loop-cause.cause-index < length ALL = (let l = c.loop-cause-test.true in omega arith) in
    puts_more (λ (cause : Cause). calls_line (cause_text cause) (count_for c.args.counts.now.calls cause)) ALL low (get_or_default ALL c.loop-cause.cause-index _ _ low)
    c.loop-cause.invariant (rw (c.cause_word.ensures.text, c.ended_by.ensures) at c.write_calls.ensures)

pub returns : goal.returns
returns g c =
    let all : length ALL ≤ c.loop-cause.cause-index = (let l = c.loop-cause-test.false in omega arith) in
    puts_all (λ (cause : Cause). calls_line (cause_text cause) (count_for c.args.counts.now.calls cause)) ALL all c.loop-cause.invariant
