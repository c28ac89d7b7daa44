use Rattle.tx_jobs.proofs.Common.{◌≡◌, ◌∙◌, [], false, Err, ap, inl, inr, refl, rules, output, exits_with, plan_fault, PipeRan, PipeRefused}
use Rattle.tx_jobs.proofs.Piping.{refused, ran, subst2}
use Rattle.tx_jobs.proofs.RefusedTexts.{refused_mark}
use Rattle.tx_jobs.proofs.pipe.pipe_job.Goals as goal

pub returns-clause-answers : goal.returns-clause-answers
returns-clause-answers g c =
    let s = g.R.Source in
    let begun = c.new-part.result in
    let read = c.read_plan_part.new.part in
    let script = c.new-script.result in
    let end = c.run_script_part.new.script in
    let out = output g.W.Sink.taken c.args.out.now c.run_script_part.new.out in
    let result = c.run_script_part.result in
    let none : begun.ahead.now.held ≡ [] = ap (λ b. b.now.held) c.new-part.ensures.ahead ∙ c.new-ahead.ensures.held in
    let sound : begun.ahead.now.failed ≡ false = ap (λ b. b.now.failed) c.new-part.ensures.ahead ∙ c.new-ahead.ensures.failed in
    let same : script.input.now ≡ read.input.now = search rules in
    let kept : script.ahead.now ≡ read.ahead.now = search rules in
    inl
    (subst2 (λ a b. PipeRan s.rest s.failed s.called a b out result) (ap (λ b. b.now) c.new-part.ensures.input) (search rules)
    (ran s.rest s.failed s.called begun read none sound c.new-part.ensures.seen c.read_plan_part.ensures.calls script end same kept c.run_script_part.ensures.calls c.in_ok-plan.plan c.in_ok-plan.ensures.rules out result
    c.in_ok-plan.ensures.answer c.run_script_part.ensures.answers))

pub returns-in_err-plan-clause-answers : goal.returns-in_err-plan-clause-answers
returns-in_err-plan-clause-answers g c =
    let f = c.in_err-plan.field-0.0 in
    let s = g.R.Source in
    let begun = c.new-part.result in
    let out = output g.W.Sink.taken c.args.out.now c.args.out.now in
    let none : begun.ahead.now.held ≡ [] = ap (λ b. b.now.held) c.new-part.ensures.ahead ∙ c.new-ahead.ensures.held in
    let sound : begun.ahead.now.failed ≡ false = ap (λ b. b.now.failed) c.new-part.ensures.ahead ∙ c.new-ahead.ensures.failed in
    rw (exits_with c.from_residual.result (plan_fault f) c.from_residual.ensures.1)
    (inr
    (subst2 (λ a b. PipeRefused s.rest s.failed s.called a b out (Err (plan_fault f))) (ap (λ b. b.now) c.new-part.ensures.input) (search rules)
    (refused s.rest s.failed s.called begun c.read_plan_part.new.part none sound c.new-part.ensures.seen c.read_plan_part.ensures.calls out (plan_fault f) f c.in_err-plan.ensures.answer refl refl)))

pub returns-in_err-plan-clause-mark : goal.returns-in_err-plan-clause-mark
returns-in_err-plan-clause-mark g c = refused_mark (g.W.Sink.failed c.args.out.now) c.from_residual.result c.in_err-plan.field-0.0 c.from_residual.ensures.1
