use Rattle.tx_text.proofs.Common.{◌≡◌, true, refl, Frame, AtEnd, text_said, line_declares}
use Rattle.tx_text.proofs.Exits.{exits_with}
use Rattle.tx_text.proofs.SliceAnswers.{slice_answered, slice_stands}
use Rattle.tx_text.proofs.reading.read_slice.Goals as goal

pub returns-in_err-frame : goal.returns-in_err-frame
returns-in_err-frame g c =
    let x = c.in_err-frame.field-0.0 in
    rw (exits_with c.from_residual.result (record { line = x.line; kind = Frame x.fault }) c.from_residual.ensures.1, c.in_err-frame.ensures.err) refl

pub returns : goal.returns
returns g c =
    let declare = g.D.Declares.declares in
    let key = c.args.key.now in
    let most = c.args.most in
    let text = c.args.text.now in
    let start = c.args.start in
    let a = rw (c.in_ok-frame.ensures.ok, c.new-source.ensures.rest) at c.read_lines.ensures.answer in
    slice_answered g.D.Declares.is_memory text _ (text_said declare key most start) _ _ _
    (λ n. line_declares declare key most start n AtEnd text ≡ true)
    (c.slices_are_read_whole.ensures text _ c.new-source.ensures.short)
    (λ n r. slice_stands text _ (line_declares declare key most start n) true r) _ a
