use Rattle.tx_text.proofs.Common.{◌≤◌, ◌∙◌, Ok, refl, sym, ap, inr, arith, subst, Broken, header_of, is_read, ReadsOn, Went, frame_of, FrameReading, IsSound, to_come, reading_rest, reading_size}
use Rattle.tx_text.specs.declared.frame.LineForm.TheVariants.{Blank, Header, End}
use Rattle.tx_text.specs.inner.TextLine.{line_of}
use Rattle.tx_text.proofs.Framing.{on_none}
use Rattle.tx_text.proofs.CallCounts.{went_none, went_on, calls_on, broken_on, stopped_with}
use Rattle.tx_text.proofs.Sizes.{on_ok, some_at}
use Rattle.tx_text.proofs.Frames.{frame_err, frame_end, frame_last, frame_line, frame_plain, frame_bad}
use Rattle.tx_text.proofs.frame.FrameReader.advance.Goals as goal

pub lines-init : goal.lines-init
lines-init g c =
    let old = c.args.self.now in
    let a = g.R.Source.rest c.args.source.now in
    record {
      says = subst (λ v. ReadsOn a a (to_come old) (to_come v)) (sym c.self.view_is) (on_none a (to_come old));
      sound = subst (λ (v : FrameReading). IsSound v) (sym c.self.view_is) c.requires;
      less = subst (λ (v : FrameReading). reading_size v.reader ≤ reading_size old.reader) (sym c.self.view_is) (omega arith);
      went = subst (λ (v : FrameReading). Went g.R.Source.called old.reader.left v.reader.left c.args.source.now c.args.source.now) (sym c.self.view_is) (went_none g.R.Source.called _ _);
      unmarked = refl;
    }

pub returns-in-Err-clause-gives : goal.returns-in-Err-clause-gives
returns-in-Err-clause-gives g c =
    let v = c.lines.self-inside in
    let n = c.advance.new.self in
    let s = frame_err (header_of v.key.now v.most) _ _ _ _ v.phase v.number (reading_rest v.reader) (reading_rest n) n.feed.line _ c.in-Err.fault c.lines.invariant.says c.in-Err.ensures.gives in
    let called = g.R.Source.called in
    let failed = g.R.Source.failed c.advance.new.source in
    stopped_with _ _ _ _ _ (is_read c.in-Err.fault) _ (broken_on called failed c.args.self.now.reader.left v.reader.left _ _ _ c.lines.invariant.went) s

pub returns-in-Ok-false-clause-gives : goal.returns-in-Ok-false-clause-gives
returns-in-Ok-false-clause-gives g c =
    let v = c.lines.self-inside in
    let n = c.advance.new.self in
    let broken = Broken g.R.Source.called (g.R.Source.failed c.advance.new.source) c.args.self.now.reader.left c.args.source.now c.advance.new.source in
    rw (c.end_as.ensures, c.closing.ensures)
    (frame_end (header_of v.key.now v.most) _ _ _ _ (to_come (frame_of (record v { reader = n }))) v.phase v.number (reading_rest v.reader) n.feed.line broken c.lines.invariant.says (rw c.in-Ok-false.field-0-test at c.in-Ok-false.ensures.gives))

pub returns-then-not-line-clause-gives : goal.returns-then-not-line-clause-gives
returns-then-not-line-clause-gives g c =
    let v = c.lines.self-inside in
    let n = c.advance.new.self in
    let broken = Broken g.R.Source.called (g.R.Source.failed c.advance.new.source) c.args.self.now.reader.left c.args.source.now c.advance.new.source in
    rw (c.end_as-then-not-line.ensures, c.last_fault.ensures)
    (frame_last (header_of v.key.now v.most) _ _ _ _ (to_come (frame_of (record v { reader = n }))) v.phase v.number (reading_rest v.reader) (reading_rest n) n.feed.line n.feed.line (line_of c.line-line.result) broken c.lines.invariant.says (rw c.in-Ok-true.field-0-test at c.in-Ok-true.ensures.gives) c.line-line.ensures.line c.if-not-line.true)

pub lines-preserved-in-Blank : goal.lines-preserved-in-Blank
lines-preserved-in-Blank g c =
    let v = c.lines.self-inside in
    let n = c.advance.new.self in
    let i = c.lines.invariant in
    record {
      says = frame_line (header_of v.key.now v.most) _ _ _ _ v.phase v.number (reading_rest v.reader) (reading_rest n) n.feed.line (line_of c.line-line.result) Blank i.says (rw c.in-Ok-true.field-0-test at c.in-Ok-true.ensures.gives) c.line-line.ensures.line c.if-not-line.false c.in-Blank.ensures;
      sound = c.in-Ok-true.ensures.fault;
      less = omega (arith, c.in-Ok-true.ensures.falls c.in-Ok-true.field-0-test, i.less);
      went = went_on g.R.Source.called _ v.reader.left n.left _ _ _ i.went (some_at _ _ _ c.line-line.ensures.line (c.in-Ok-true.ensures.went (ap Ok c.in-Ok-true.field-0-test)) c.if-not-line.false);
      unmarked = c.in-Ok-true.ensures.unmarked ∙ i.unmarked;
    }

pub lines-preserved : goal.lines-preserved
lines-preserved g c =
    let v = c.lines.self-inside in
    let n = c.advance.new.self in
    let i = c.lines.invariant in
    record {
      says = frame_line (header_of v.key.now v.most) _ _ _ _ v.phase v.number (reading_rest v.reader) (reading_rest n) n.feed.line (line_of c.line-line.result) End i.says (rw c.in-Ok-true.field-0-test at c.in-Ok-true.ensures.gives) c.line-line.ensures.line c.if-not-line.false c.in-End.ensures;
      sound = c.in-Ok-true.ensures.fault;
      less = omega (arith, c.in-Ok-true.ensures.falls c.in-Ok-true.field-0-test, i.less);
      went = went_on g.R.Source.called _ v.reader.left n.left _ _ _ i.went (some_at _ _ _ c.line-line.ensures.line (c.in-Ok-true.ensures.went (ap Ok c.in-Ok-true.field-0-test)) c.if-not-line.false);
      unmarked = c.in-Ok-true.ensures.unmarked ∙ i.unmarked;
    }

pub returns-in-Header-clause-gives : goal.returns-in-Header-clause-gives
returns-in-Header-clause-gives g c =
    let v = c.lines.self-inside in
    let n = c.advance.new.self in
    frame_line (header_of v.key.now v.most) _ _ _ _ v.phase v.number (reading_rest v.reader) (reading_rest n) n.feed.line (line_of c.line-line.result) (Header c.in-Header.version) c.lines.invariant.says (rw c.in-Ok-true.field-0-test at c.in-Ok-true.ensures.gives) c.line-line.ensures.line c.if-not-line.false c.in-Header.ensures

pub returns-in-Plain-clause-gives : goal.returns-in-Plain-clause-gives
returns-in-Plain-clause-gives g c =
    let v = c.lines.self-inside in
    let n = c.advance.new.self in
    frame_plain (header_of v.key.now v.most) _ _ _ _ v.phase v.number (reading_rest v.reader) (reading_rest n) n.feed.line (line_of c.line-line.result) c.lines.invariant.says (rw c.in-Ok-true.field-0-test at c.in-Ok-true.ensures.gives) c.line-line.ensures.line c.if-not-line.false c.in-Plain.ensures

pub returns-in-Bad-clause-gives : goal.returns-in-Bad-clause-gives
returns-in-Bad-clause-gives g c =
    let v = c.lines.self-inside in
    let n = c.advance.new.self in
    frame_bad (header_of v.key.now v.most) _ _ _ _ v.phase v.number (reading_rest v.reader) (reading_rest n) n.feed.line (line_of c.line-line.result) _ c.in-Bad.fault c.lines.invariant.says (rw c.in-Ok-true.field-0-test at c.in-Ok-true.ensures.gives) c.line-line.ensures.line c.if-not-line.false c.in-Bad.ensures

pub returns-in-Header-clause-went : goal.returns-in-Header-clause-went
returns-in-Header-clause-went g c =
    let v = c.lines.self-inside in
    let n = c.advance.new.self in
    inr (record {
      went = went_on g.R.Source.called _ v.reader.left n.left _ _ _ c.lines.invariant.went (some_at _ _ _ c.line-line.ensures.line (c.in-Ok-true.ensures.went (ap Ok c.in-Ok-true.field-0-test)) c.if-not-line.false);
      falls = omega (arith, c.in-Ok-true.ensures.falls c.in-Ok-true.field-0-test, c.lines.invariant.less);
    })

pub returns-in-Plain-clause-went : goal.returns-in-Plain-clause-went
returns-in-Plain-clause-went g c =
    let v = c.lines.self-inside in
    let n = c.advance.new.self in
    inr (record {
      went = went_on g.R.Source.called _ v.reader.left n.left _ _ _ c.lines.invariant.went (some_at _ _ _ c.line-line.ensures.line (c.in-Ok-true.ensures.went (ap Ok c.in-Ok-true.field-0-test)) c.if-not-line.false);
      falls = omega (arith, c.in-Ok-true.ensures.falls c.in-Ok-true.field-0-test, c.lines.invariant.less);
    })

pub returns-in-Err-clause-calls : goal.returns-in-Err-clause-calls
returns-in-Err-clause-calls g c = calls_on g.R.Source.called _ c.lines.self-inside.reader.left _ _ _ c.lines.invariant.went c.advance.ensures.calls

pub returns-in-Ok-false-clause-calls : goal.returns-in-Ok-false-clause-calls
returns-in-Ok-false-clause-calls g c = calls_on g.R.Source.called _ c.lines.self-inside.reader.left _ _ _ c.lines.invariant.went c.advance.ensures.calls

pub returns-then-not-line-clause-calls : goal.returns-then-not-line-clause-calls
returns-then-not-line-clause-calls g c = calls_on g.R.Source.called _ c.lines.self-inside.reader.left _ _ _ c.lines.invariant.went c.advance.ensures.calls

pub returns-in-Header-clause-calls : goal.returns-in-Header-clause-calls
returns-in-Header-clause-calls g c = calls_on g.R.Source.called _ c.lines.self-inside.reader.left _ _ _ c.lines.invariant.went c.advance.ensures.calls

pub returns-in-Plain-clause-calls : goal.returns-in-Plain-clause-calls
returns-in-Plain-clause-calls g c = calls_on g.R.Source.called _ c.lines.self-inside.reader.left _ _ _ c.lines.invariant.went c.advance.ensures.calls

pub returns-in-Bad-clause-calls : goal.returns-in-Bad-clause-calls
returns-in-Bad-clause-calls g c = calls_on g.R.Source.called _ c.lines.self-inside.reader.left _ _ _ c.lines.invariant.went c.advance.ensures.calls

pub returns-in-Ok-false-clause-unmarked : goal.returns-in-Ok-false-clause-unmarked
returns-in-Ok-false-clause-unmarked g c = on_ok _ (c.in-Ok-false.ensures.unmarked ∙ c.lines.invariant.unmarked)

pub returns-then-not-line-clause-unmarked : goal.returns-then-not-line-clause-unmarked
returns-then-not-line-clause-unmarked g c = on_ok _ (c.in-Ok-true.ensures.unmarked ∙ c.lines.invariant.unmarked)
