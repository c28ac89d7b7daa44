use Rattle.tx_files.proofs.LeftTexts.{still_joined}
use Rattle.tx_text.proofs.Exits.{exits_with}
use Rattle.tx_files.proofs.left.TwoPlansPlansRead.leave_out.Goals as goal

pub returns-clause-left : goal.returns-clause-left
returns-clause-left g c = record {
  old = c.in_ok-old.ensures.left;
  new = c.in_ok-new.ensures.left;
  joined = c.in_ok-joined.ensures.joined;
}

pub returns-clause-known : goal.returns-clause-known
returns-clause-known g c = record {
  old = c.in_ok-old.ensures.rules;
  new = c.in_ok-new.ensures.rules;
  joined = c.in_ok-joined.ensures.joined;
}

pub returns-in_err-joined-clause-refused : goal.returns-in_err-joined-clause-refused
returns-in_err-joined-clause-refused g c =
    rw (exits_with c.from_residual-in_err-joined.result c.in_err-joined.field-0.0 c.from_residual-in_err-joined.ensures.1)
    (still_joined c.args.down.now c.args.self c.in_ok-old.old c.in_ok-new.new c.in_err-joined.field-0.0
    c.in_ok-old.ensures.left c.in_ok-new.ensures.left c.requires.joined.unrefused
    c.in_err-joined.ensures.refused)
