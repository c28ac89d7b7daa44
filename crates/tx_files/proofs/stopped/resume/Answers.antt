use Rattle.tx_files.proofs.Common.{◌≡◌, None, Err, ap, refl, sym, subst, inl, input, exits_with, IsPlan, join_refusal}
use Rattle.tx_files.proofs.LeftTexts.{joined_stop}
use Rattle.tx_files.proofs.StoppedTexts.{target_rules, joins_target}
use Rattle.tx_files.proofs.stopped.resume.Goals as goal

pub plan_where-requires : goal.plan_where-requires
plan_where-requires g c = c.requires.joined.network.same

pub returns-in_err-plan-clause-texts : goal.returns-in_err-plan-clause-texts
returns-in_err-plan-clause-texts g c =
    rw (exits_with c.from_residual.result c.in_err-plan.field-0.0 c.from_residual.ensures.1)
    c.in_err-plan.ensures.plan

pub returns-in_err-joined-clause-texts : goal.returns-in_err-joined-clause-texts
returns-in_err-joined-clause-texts g c =
    let t = c.args.texts in
    let f = c.in_err-joined.field-0.0 in
    let text = input g.R.Source.rest g.R.Source.failed g.R.Source.called c.args.done.now c.plan_where.new.done in
    let none : join_refusal c.in_ok-plan.plan c.in_ok-plan.target ≡ None =
    rw c.in_ok-plan.ensures.target (joins_target t.old.plan t.new.plan t.joined c.args.stopped c.args.named text c.in_ok-plan.plan c.requires.joined
    c.in_ok-plan.ensures.plan c.in_ok-plan.ensures.rules) in
    rw (exits_with c.from_residual-in_err-joined.result f c.from_residual-in_err-joined.ensures.1)
    (inl (ap Err (joined_stop _ _ f none c.in_err-joined.ensures.refused)))

pub returns-clause-texts : goal.returns-clause-texts
returns-clause-texts g c =
    let t = c.args.texts in
    record {
      stops = c.in_ok-plan.ensures.plan;
      old_text = refl;
      new = λ i. record { text = t.new.text; plan = c.in_ok-plan.ensures.target i };
      joined = c.in_ok-joined.ensures.joined;
    }

pub returns-clause-known : goal.returns-clause-known
returns-clause-known g c =
    let t = c.args.texts in
    record {
      old = c.in_ok-plan.ensures.rules;
      new = subst IsPlan (sym c.in_ok-plan.ensures.target) (target_rules t.old.plan t.new.plan t.joined c.args.stopped.back c.requires.joined);
      joined = c.in_ok-joined.ensures.joined;
    }
