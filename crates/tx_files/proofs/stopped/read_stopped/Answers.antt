use Rattle.tx_files.proofs.Common.{inr, refl, exits_with}
use Rattle.tx_files.proofs.StoppedTexts.{none_read}
use Rattle.tx_files.proofs.Uncalled.{uncalled}
use Rattle.tx_files.proofs.stopped.read_stopped.Goals as goal

pub resume-requires : goal.resume-requires
resume-requires g c = c.in_ok-texts.ensures.known

pub returns-in_err-texts-clause-texts : goal.returns-in_err-texts-clause-texts
returns-in_err-texts-clause-texts g c =
    rw (exits_with c.from_residual.result c.in_err-texts.field-0.0 c.from_residual.ensures.1)
    (none_read c.args.stopped c.args.named _ _ _ c.in_err-texts.field-0.0 c.in_err-texts.ensures.texts refl)

pub returns-in_err-texts-clause-done_calls : goal.returns-in_err-texts-clause-done_calls
returns-in_err-texts-clause-done_calls g c = uncalled g.R.Source.called c.args.done.now

pub returns-in-Some-clause-texts : goal.returns-in-Some-clause-texts
returns-in-Some-clause-texts g c =
    rw c.in-Some.is (inr (c.in_ok-texts.texts, c.in_ok-texts.ensures.texts, c.resume.ensures.texts))

pub returns-in-None-clause-texts : goal.returns-in-None-clause-texts
returns-in-None-clause-texts g c = rw c.in-None.is (c.in_ok-texts.ensures.texts, refl)

pub returns-in-None-clause-done_calls : goal.returns-in-None-clause-done_calls
returns-in-None-clause-done_calls g c = uncalled g.R.Source.called c.args.done.now
