use Rattle.tx_files.proofs.Common.{inl, inr, refl, exits_with}
use Rattle.tx_files.proofs.Uncalled.{uncalled}
use Rattle.tx_files.proofs.two_plans.read_plans.Goals as goal

pub returns-in_err-old-clause-texts : goal.returns-in_err-old-clause-texts
returns-in_err-old-clause-texts g c =
    rw (exits_with c.from_residual.result c.in_err-old.field-0.0 c.from_residual.ensures.1) (inl (c.in_err-old.ensures.text, refl))

pub returns-in_err-new-clause-texts : goal.returns-in_err-new-clause-texts
returns-in_err-new-clause-texts g c =
    rw (exits_with c.from_residual-in_err-new.result c.in_err-new.field-0.0 c.from_residual-in_err-new.ensures.1)
    (inr (inl (record { plan = c.in_ok-old.old; read = c.in_ok-old.ensures.text; refused = c.in_err-new.ensures.text })))

pub returns-in_err-joined-clause-texts : goal.returns-in_err-joined-clause-texts
returns-in_err-joined-clause-texts g c =
    rw (exits_with c.from_residual-in_err-joined.result c.in_err-joined.field-0.0 c.from_residual-in_err-joined.ensures.1)
    (inr (inr (record {
      before = c.in_ok-old.old;
      after = c.in_ok-new.new;
      old_read = c.in_ok-old.ensures.text;
      new_read = c.in_ok-new.ensures.text;
      refused = c.in_err-joined.ensures.refused;
    })))

pub returns-clause-texts : goal.returns-clause-texts
returns-clause-texts g c =
    (c.in_ok-old.ensures.text, c.in_ok-new.ensures.text, c.in_ok-joined.ensures.joined)

pub returns-clause-known : goal.returns-clause-known
returns-clause-known g c = record {
  old = c.in_ok-old.ensures.text.said.rules;
  new = c.in_ok-new.ensures.text.said.rules;
  joined = c.in_ok-joined.ensures.joined;
}

pub returns-in_err-old-clause-new_calls : goal.returns-in_err-old-clause-new_calls
returns-in_err-old-clause-new_calls g c = uncalled g.Q.Source.called c.args.new.now
