use Rattle.tx_text.proofs.Common.{refl, Frame, source_calls}
use Rattle.tx_text.proofs.CallCounts.{went_none, calls_so_far}
use Rattle.tx_text.proofs.Exits.{exits_with}
use Rattle.tx_text.proofs.reading.read_text.Goals as goal

pub returns-in_err-frame-clause-answer : goal.returns-in_err-frame-clause-answer
returns-in_err-frame-clause-answer g c =
    let x = c.in_err-frame.field-0.0 in
    rw (exits_with c.from_residual.result (record { line = x.line; kind = Frame x.fault }) c.from_residual.ensures.1, c.in_err-frame.ensures.err) (refl, refl)

pub returns-in_err-frame-clause-calls : goal.returns-in_err-frame-clause-calls
returns-in_err-frame-clause-calls g c = calls_so_far g.R.Source.called source_calls source_calls _ _ (went_none g.R.Source.called source_calls _)

pub returns-clause-answer : goal.returns-clause-answer
returns-clause-answer g c = rw c.in_ok-frame.ensures.ok at c.read_lines.ensures.answer

pub returns-clause-calls : goal.returns-clause-calls
returns-clause-calls g c = rw c.in_ok-frame.ensures.ok at c.read_lines.ensures.calls
