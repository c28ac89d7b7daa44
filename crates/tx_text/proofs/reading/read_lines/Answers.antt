use Rattle.tx_text.proofs.Common.{◌≡◌, ℕ, List, Ok, ap, subst, Frame, DeclaredBy, is_no_room, text_said, line_declares, WantingAt}
use Rattle.tx_text.specs.inner.Framing.{FrameReading, to_come, line_of_frame, number_of_line, words_of_line}
use Rattle.tx_text.proofs.CallCounts.{went_none, went_on, went_past, calls_on, broken_on, stopped_by_with}
use Rattle.tx_text.proofs.Exits.{exits_with}
use Rattle.tx_text.proofs.NoRoom.{come_said}
use Rattle.tx_text.proofs.Saying.{headed_on, declared_on, refused, done_on, stopped_by}
use Rattle.tx_text.proofs.Starting.{start_says, start_finds}
use Rattle.tx_text.proofs.Wanting.{finds_headed, finds_declared, found_here}
use Rattle.tx_text.proofs.reading.read_lines.Goals as goal

pub lines-init : goal.lines-init
lines-init g c =
    let v = c.args.frame in
    let declare = g.D.Declares.declares in
    record {
      says = start_says declare _ v v.key v.most v.reader.left c.args.start c.requires;
      finds = start_finds declare _ v v.key v.most v.reader.left c.args.start c.requires;
      sound = ap (λ (u : FrameReading). u.reader.feed.fault) c.requires;
      went = went_none g.R.Source.called _ _;
    }

pub lines-preserved-in-Header : goal.lines-preserved-in-Header
lines-preserved-in-Header g c =
    let declare = g.D.Declares.declares in
    let key = c.args.frame.key in
    let most = c.args.frame.most in
    let start = c.args.start in
    let i = c.lines.invariant in
    let v = c.advance.new.self in
    let q = rw c.in-Header.is at c.in_ok-given.ensures.gives in
    let w = rw c.in-Header.is at c.in_ok-given.ensures.went in
    record {
      says = headed_on declare _ _ _ (text_said declare key most start) (to_come c.lines.frame) (to_come v) c.lines.version _ c.lines.lines i.says q;
      finds = finds_headed declare _ _ _ (λ e more n. line_declares declare key most start n e more) (to_come c.lines.frame) (to_come v) c.lines.version _ c.lines.lines i.finds q;
      sound = c.in_ok-given.ensures.sound;
      went = went_on g.R.Source.called _ _ _ _ _ _ i.went (went_past w (λ e. cc)).went;
    }

pub lines-preserved : goal.lines-preserved
lines-preserved g c =
    let declare = g.D.Declares.declares in
    let key = c.args.frame.key in
    let most = c.args.frame.most in
    let start = c.args.start in
    let i = c.lines.invariant in
    let v = c.advance.new.self in
    let n = number_of_line (line_of_frame v) in
    let ws = words_of_line (line_of_frame v) in
    let new = c.declare.new.self in
    let q = rw c.in-Line.is at c.in_ok-given.ensures.gives in
    let w = rw c.in-Line.is at c.in_ok-given.ensures.went in
    let d : declare c.lines.version c.lines.lines ws ≡ Ok new = subst (λ (l : List (List ℕ)). declare c.lines.version c.lines.lines l ≡ Ok new) c.words.ensures c.in_default.ensures in
    record {
      says = declared_on declare _ _ _ (text_said declare key most start) (to_come c.lines.frame) (to_come v) c.lines.version c.lines.lines new n ws i.says q d;
      finds = finds_declared declare _ _ _ (λ e more n. line_declares declare key most start n e more) (to_come c.lines.frame) (to_come v) c.lines.version c.lines.lines new n ws i.finds q d;
      sound = c.in_ok-given.ensures.sound;
      went = went_on g.R.Source.called _ _ _ _ _ _ i.went (went_past w (λ e. cc)).went;
    }

pub returns-in-Err : goal.returns-in-Err
returns-in-Err g c =
    let declare = g.D.Declares.declares in
    let memory = g.D.Declares.is_memory in
    let key = c.args.frame.key in
    let most = c.args.frame.most in
    let start = c.args.start in
    let i = c.lines.invariant in
    let v = c.advance.new.self in
    let n = number_of_line (line_of_frame v) in
    let ws = words_of_line (line_of_frame v) in
    let x = c.in-Err.word in
    let a = g.R.Source.rest c.args.source.now in
    let b = g.R.Source.rest c.advance.new.source in
    let q = rw c.in-Line.is at c.in_ok-given.ensures.gives in
    let d : DeclaredBy (declare c.lines.version c.lines.lines ws) (memory x) x = subst (λ (l : List (List ℕ)). DeclaredBy (declare c.lines.version c.lines.lines l) (memory x) x) c.words.ensures c.in-Err.ensures in
    let here = found_here declare _ _ _ (λ e more n. line_declares declare key most start n e more) (to_come c.lines.frame) (to_come v) c.lines.version c.lines.lines n ws i.finds q in
    record {
      answer = rw c.number.ensures (refused declare _ _ _ (text_said declare key most start) (to_come c.lines.frame) (to_come v) (WantingAt declare key most start a b) c.lines.version c.lines.lines x n ws (memory x) i.says q d here);
      calls = calls_on g.R.Source.called _ c.lines.frame.reader.left _ _ _ i.went c.advance.ensures.calls;
    }

pub returns-in-End : goal.returns-in-End
returns-in-End g c =
    let declare = g.D.Declares.declares in
    let i = c.lines.invariant in
    let e = rw c.in-End.is at c.in_ok-given.ensures.gives in
    record {
      answer = (done_on declare _ _ _ (text_said declare c.args.frame.key c.args.frame.most c.args.start) (to_come c.lines.frame) c.lines.version c.lines.lines i.says e.0, e.1);
      calls = calls_on g.R.Source.called _ c.lines.frame.reader.left _ _ _ i.went c.advance.ensures.calls;
    }

pub returns-in_err-given-clause-answer : goal.returns-in_err-given-clause-answer
returns-in_err-given-clause-answer g c =
    let declare = g.D.Declares.declares in
    let F = text_said declare c.args.frame.key c.args.frame.most c.args.start in
    let i = c.lines.invariant in
    let x = c.in_err-given.field-0.0 in
    let called = g.R.Source.called in
    let failed = g.R.Source.failed c.advance.new.source in
    rw (exits_with c.from_residual.result (record { line = x.line; kind = Frame x.fault }) c.from_residual.ensures.1)
    (stopped_by_with _ _ F _ _ _ (is_no_room x.fault) x.line x.fault (broken_on called failed c.args.frame.reader.left c.lines.frame.reader.left _ _ _ i.went)
    (stopped_by declare _ _ _ F (to_come c.lines.frame) c.lines.version c.lines.lines x.line x.fault _ _ (come_said c.lines.frame) i.says c.in_err-given.ensures.gives))

pub returns-in_err-given-clause-calls : goal.returns-in_err-given-clause-calls
returns-in_err-given-clause-calls g c = calls_on g.R.Source.called _ c.lines.frame.reader.left _ _ _ c.lines.invariant.went c.advance.ensures.calls
