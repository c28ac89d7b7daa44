use Rattle.tx_lint.proofs.Common.{Ok, Told, fault_line, told_held}
use Rattle.std.proofs.lemmas.List.Folds.{flat_map-map}
use Rattle.tx_text.proofs.Wrote.{wrote_none, text_is, texts_done}
use Rattle.tx_lint.proofs.Texts.{more_read, stopped_read}
use Rattle.tx_lint.proofs.lint_text.write_faults.Goals as goal

pub loop-i-init : goal.loop-i-init
loop-i-init g c = wrote_none _ _

pub loop-i-preserved : goal.loop-i-preserved
loop-i-preserved g c =
    more_read (λ (t : Told). fault_line c.args.file.now (told_held t)) c.args.told.now c.loop-i.i _
    _ _ _ _ _ _ c.loop-i-test.true c.loop-i.invariant c.in_ok-write_fault.ensures

pub returns : goal.returns
returns g c =
    text_is (g.W.Sink.taken c.args.sink.now) (g.W.Sink.taken c.loop-i.sink) (g.W.Sink.failed c.args.sink.now)
    (g.W.Sink.failed c.loop-i.sink) _ _ (Ok tt) (flat_map-map (fault_line c.args.file.now) told_held c.args.told.now)
    (texts_done (λ (t : Told). fault_line c.args.file.now (told_held t)) c.args.told.now c.loop-i.i
    _ _ _ _ c.loop-i-test.false c.loop-i.invariant)

pub returns-in_err-write_fault : goal.returns-in_err-write_fault
returns-in_err-write_fault g c =
    text_is _ _ _ _ _ _ _ (flat_map-map (fault_line c.args.file.now) told_held c.args.told.now)
    (stopped_read (λ (t : Told). fault_line c.args.file.now (told_held t)) c.args.told.now c.loop-i.i _
    _ _ _ _ _ _ _ c.in_err-write_fault.field-0.0 c.loop-i-test.true c.loop-i.invariant
    c.in_err-write_fault.ensures c.from_residual.ensures.0)
