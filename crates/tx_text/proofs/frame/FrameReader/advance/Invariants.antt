use Rattle.tx_text.proofs.Common.{◌≡◌, ◌≤◌, ReadsOn, Went, frame_of, IsSound, to_come, reading_size}
use Rattle.tx_text.proofs.frame.FrameReader.advance.Given as goal

abbrev pub invariant-lines : goal.invariant-lines
invariant-lines g l =
    let old = l.fn.self in
    let now = frame_of l.self-inside in
    record {
      says : ReadsOn (g.R.Source.rest l.initial.source) (g.R.Source.rest l.source) (to_come old) (to_come now);
      sound : IsSound now;
      less : reading_size now.reader ≤ reading_size old.reader;
      went : Went g.R.Source.called old.reader.left now.reader.left l.initial.source l.source;
      unmarked : g.R.Source.failed l.source ≡ g.R.Source.failed l.initial.source;
    }

abbrev pub decreases-lines : goal.decreases-lines
decreases-lines g l = reading_size l.self-inside.reader
