use Rattle.tx_script.proofs.Common.{◌∙◌, ◌+◌, Ok, ap, sym, refl, source_calls, is_read, FrameReading, to_come, RunCause}
use Rattle.tx_text.proofs.NoRoom.{come_said}
use Rattle.tx_text.proofs.CallCounts.{less_left, went_none, went_on, went_same, calls_on, broken_on, stopped_with}
use Rattle.tx_script.specs.Answers.{mark_after}
use Rattle.tx_script.specs.Events.{event_of}
use Rattle.tx_script.proofs.Running.{past_header, past_line, start_runs, few_answered, few_refused, few_calls, few_told, few_counted, none_left, line_mark, stop_mark}
use Rattle.tx_script.proofs.RunEnds.{header_came, line_came, line_halted, end_came, stop_ends, whole_ends}
use Rattle.tx_script.proofs.runner.run_lines.Goals as goal

pub lines-init : goal.lines-init
lines-init g c =
    let r = c.requires in
    record {
      plan = r.plan;
      runs = start_runs c.args.plan.now c.args.teller.now.echo c.args.teller.now.counts (g.R.Source.rest c.args.source.now) (g.N.Network.state c.args.net.now) (g.W.Sink.taken c.args.sink.now) c.args.frame _ r.start r.fresh c.new-tally.ensures;
      echo = refl;
      mark = refl;
      sound = ap (λ (v : FrameReading). v.reader.feed.fault) r.start;
      went = went_same g.R.Source.called _ _ _ _ _ (ap (λ (v : FrameReading). v.reader.left) r.start) (went_none g.R.Source.called source_calls c.args.source.now);
    }

pub advance-requires : goal.advance-requires
advance-requires g c = c.lines.invariant.sound

pub lines-smaller-in-Ok-Header : goal.lines-smaller-in-Ok-Header
lines-smaller-in-Ok-Header g c = past_header _ _ c.in-Ok-Header.field-0-is (less_left c.in-Ok-Header.ensures.went)

pub lines-preserved-in-Ok-Header : goal.lines-preserved-in-Ok-Header
lines-preserved-in-Ok-Header g c =
    let v = c.lines.invariant in
    let k = c.in-Ok-Header in
    record {
      plan = v.plan;
      runs = header_came _ _ _ _ _ _ _ _ _ _ _ _ _ v.runs _ _ (to_come c.advance.new.self) c.advance.new.self.reader.feed.line k.ensures.gives _ _ k.field-0-is (less_left k.ensures.went);
      echo = v.echo;
      mark = v.mark;
      sound = k.ensures.sound;
      went = went_on g.R.Source.called _ _ _ _ _ _ v.went (past_header _ _ k.field-0-is k.ensures.went).went;
    }

pub words-requires : goal.words-requires
words-requires g c = c.in-Ok-Line.ensures.line (ap Ok c.in-Ok-Line.field-0-is)

pub number-requires : goal.number-requires
number-requires g c = c.in-Ok-Line.ensures.line (ap Ok c.in-Ok-Line.field-0-is)

pub next_number-number-requires : goal.next_number-number-requires
next_number-number-requires g c = few_answered _ _ _ _ _ _ _ _ _ _ _ _ _ c.lines.invariant.runs

pub answer_line-requires : goal.answer_line-requires
answer_line-requires g c =
    let v = c.lines.invariant in
    record { plan = v.plan; taken = none_left _ _ _ _ _ _ _ _ _ _ _ _ _ v.runs; few = few_calls _ _ _ _ _ _ _ _ _ _ _ _ _ v.runs c.requires.fresh; counted = few_counted _ _ _ _ _ _ _ _ _ _ _ _ _ v.runs c.rules.ensures c.requires.fresh c.requires.counts }

pub count-requires : goal.count-requires
count-requires g c =
    let v = c.lines.invariant in
    record {
      answered = few_answered _ _ _ _ _ _ _ _ _ _ _ _ _ v.runs;
      refused = few_refused _ _ _ _ _ _ _ _ _ _ _ _ _ v.runs;
      tickets = few_told _ _ _ _ _ _ _ _ _ _ _ _ _ v.runs c.requires.fresh _ _ _ _ _ _ (rw v.echo at c.in-Ok.ensures.answers);
    }

pub lines-smaller : goal.lines-smaller
lines-smaller g c = past_line _ c.in-Ok-Line.field-0-is (less_left c.in-Ok-Line.ensures.went)

pub lines-preserved : goal.lines-preserved
lines-preserved g c =
    let v = c.lines.invariant in
    let k = c.in-Ok-Line in
    let frame = c.advance.new.self in
    let a = c.in-Ok.ensures in
    record {
      plan = a.plan;
      runs = line_came _ _ _ _ _ _ _ _ _ _ _ _ _ v.runs _ _ (to_come frame) frame.reader.feed.line k.ensures.gives k.field-0-is _ c.number.ensures _ c.next_number-number.ensures _ _ _ (ap (event_of c.args.plan.now) (sym c.words.ensures) ∙ sym c.event_of-said.ensures) c.count.new.self _ _ _ (less_left k.ensures.went) (rw v.echo at a.answers) a.counts c.count.ensures;
      echo = a.echo ∙ v.echo;
      mark = a.mark ∙ v.mark;
      sound = k.ensures.sound;
      went = went_on g.R.Source.called _ _ _ _ _ _ v.went (past_line _ k.field-0-is k.ensures.went).went;
    }

pub finish-requires : goal.finish-requires
finish-requires g c = few_answered _ _ _ _ _ _ _ _ _ _ _ _ _ c.lines.invariant.runs

pub stopped-requires : goal.stopped-requires
stopped-requires g c = few_answered _ _ _ _ _ _ _ _ _ _ _ _ _ c.lines.invariant.runs

pub returns-in-Err-answer_line-clause-plan : goal.returns-in-Err-answer_line-clause-plan
returns-in-Err-answer_line-clause-plan g c = c.in-Err-answer_line.ensures.plan

pub returns-in-Ok-End-clause-plan : goal.returns-in-Ok-End-clause-plan
returns-in-Ok-End-clause-plan g c = c.lines.invariant.plan

pub returns-in-Err-clause-plan : goal.returns-in-Err-clause-plan
returns-in-Err-clause-plan g c = c.lines.invariant.plan

pub returns-in-Err-answer_line-clause-answers : goal.returns-in-Err-answer_line-clause-answers
returns-in-Err-answer_line-clause-answers g c =
    let k = c.in-Ok-Line in
    let frame = c.advance.new.self in
    let x = c.in-Err-answer_line in
    line_halted _ _ _ _ _ _ _ _ _ _ _ _ _ c.lines.invariant.runs _ _ (to_come frame) frame.reader.feed.line k.ensures.gives k.field-0-is _ c.number.ensures _ c.next_number-number.ensures _ _ _ (ap (event_of c.args.plan.now) (sym c.words.ensures) ∙ sym c.event_of-said.ensures) _ _ _ _ c.stopped.result x.cause (rw c.lines.invariant.echo at x.ensures.answers) c.stopped.ensures

pub returns-in-Ok-End-clause-answers : goal.returns-in-Ok-End-clause-answers
returns-in-Ok-End-clause-answers g c =
    let k = c.in-Ok-End in
    let f = c.finish.ensures in
    whole_ends _ _ _ _ _ _ _ _ _ _ _ _ _ c.lines.invariant.runs _ _ _ _ _ _ _ c.rules.ensures c.requires.fresh c.requires.counts refl c.finish.result (end_came _ _ _ _ _ _ _ _ _ _ _ _ _ c.lines.invariant.runs _ _ (to_come c.advance.new.self) c.advance.new.self.reader.feed.line k.ensures.gives k.field-0-is) f.summary f.ok f.fault f.err

pub returns-in-Err-clause-answers : goal.returns-in-Err-clause-answers
returns-in-Err-clause-answers g c =
    let x = c.in-Err.stop in
    let called = g.R.Source.called in
    let failed = g.R.Source.failed c.advance.new.source in
    let q = stopped_with _ _ _ _ _ (is_read x.fault) _ (broken_on called failed source_calls c.lines.frame.reader.left _ _ _ c.lines.invariant.went) c.in-Err.ensures.gives in
    stop_ends _ _ _ _ _ _ _ _ _ _ _ _ _ c.lines.invariant.runs _ _ _ _ _ _ _ refl refl c.stopped-in-Err.result x.line x.fault (come_said c.lines.frame) q (c.stopped-in-Err.ensures ∙ ap (λ (z : RunCause). record { event = c.lines.tally.answered + 1; cause = z }) c.frame_cause.ensures)

pub returns-in-Err-answer_line-clause-mark : goal.returns-in-Err-answer_line-clause-mark
returns-in-Err-answer_line-clause-mark g c = line_mark _ _ c.lines.invariant.mark _ _ c.stopped.result c.stopped.ensures _ c.in-Err-answer_line.ensures.mark

pub returns-in-Ok-End-clause-mark : goal.returns-in-Ok-End-clause-mark
returns-in-Ok-End-clause-mark g c = c.finish.ensures.mark ∙ ap (λ b. mark_after b c.finish.result) c.lines.invariant.mark

pub returns-in-Err-clause-mark : goal.returns-in-Err-clause-mark
returns-in-Err-clause-mark g c = stop_mark _ _ c.lines.invariant.mark _ _ c.stopped-in-Err.result c.stopped-in-Err.ensures _ _ c.frame_cause.ensures

pub returns-in-Err-answer_line-clause-calls : goal.returns-in-Err-answer_line-clause-calls
returns-in-Err-answer_line-clause-calls g c = calls_on g.R.Source.called source_calls c.lines.frame.reader.left _ _ _ c.lines.invariant.went c.advance.ensures.calls

pub returns-in-Ok-End-clause-calls : goal.returns-in-Ok-End-clause-calls
returns-in-Ok-End-clause-calls g c = calls_on g.R.Source.called source_calls c.lines.frame.reader.left _ _ _ c.lines.invariant.went c.advance.ensures.calls

pub returns-in-Err-clause-calls : goal.returns-in-Err-clause-calls
returns-in-Err-clause-calls g c = calls_on g.R.Source.called source_calls c.lines.frame.reader.left _ _ _ c.lines.invariant.went c.advance.ensures.calls
