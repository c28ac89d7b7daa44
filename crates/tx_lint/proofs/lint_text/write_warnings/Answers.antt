use Rattle.tx_lint.proofs.Common.{wrote_none, texts_more, texts_stopped, texts_done, warning_line}
use Rattle.tx_lint.proofs.lint_text.write_warnings.Goals as goal

pub loop-i-init : goal.loop-i-init
loop-i-init g c = wrote_none _ _

pub loop-i-preserved : goal.loop-i-preserved
loop-i-preserved g c =
    texts_more (warning_line c.args.file.now c.args.plan.now c.args.risks.now) c.args.warnings.now c.loop-i.i c.index-warnings-i.result
    _ _ _ _ _ _ c.loop-i-test.true c.index-warnings-i.is c.loop-i.invariant c.in_ok-write_warning.ensures

pub returns : goal.returns
returns g c =
    texts_done (warning_line c.args.file.now c.args.plan.now c.args.risks.now) c.args.warnings.now c.loop-i.i _ _ _ _
    c.loop-i-test.false c.loop-i.invariant

pub returns-in_err-write_warning : goal.returns-in_err-write_warning
returns-in_err-write_warning g c =
    texts_stopped (warning_line c.args.file.now c.args.plan.now c.args.risks.now) c.args.warnings.now c.loop-i.i c.index-warnings-i.result
    _ _ _ _ _ _ _ c.in_err-write_warning.field-0.0 c.loop-i-test.true c.index-warnings-i.is c.loop-i.invariant
    c.in_err-write_warning.ensures c.from_residual.ensures.0
