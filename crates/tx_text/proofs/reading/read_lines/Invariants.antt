use Rattle.tx_text.proofs.Common.{ReadsOn, Went, IsSound, to_come, reading_size}
use Rattle.tx_text.specs.Said.{said, text_said, line_declares}
use Rattle.tx_text.proofs.Wanting.{Finds, finds_from}
use Rattle.tx_text.proofs.reading.read_lines.Given as goal

abbrev pub invariant-lines : goal.invariant-lines
invariant-lines g l =
    let declare = g.D.Declares.declares in
    let start = l.initial.frame in
    record {
      says : ReadsOn (g.R.Source.rest l.initial.source) (g.R.Source.rest l.source) (text_said declare start.key start.most l.initial.lines) (λ e more. said declare l.version l.lines (to_come l.frame e more));
      finds : Finds (g.R.Source.rest l.initial.source) (g.R.Source.rest l.source) (λ e more n. line_declares declare start.key start.most l.initial.lines n e more) (finds_from declare l.version l.lines (to_come l.frame));
      sound : IsSound l.frame;
      went : Went g.R.Source.called start.reader.left l.frame.reader.left l.initial.source l.source;
    }

abbrev pub decreases-lines : goal.decreases-lines
decreases-lines g l = reading_size l.frame.reader
