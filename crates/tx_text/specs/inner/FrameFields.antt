-- What the fields of a frame reader are for.
use Rattle.tx_text.specs.declared.frame.FrameReader.TheInside.{Inside}
use Rattle.tx_text.specs.inner.Framing.{FrameReading}

-- the frame reader that the fields are for
abbrev pub frame_of : {A : Type 0} → Inside A → FrameReading
frame_of a = record {
  key = a.key.now;
  most = a.most;
  phase = a.phase;
  number = a.number;
  reader = a.reader;
}
