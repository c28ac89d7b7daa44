use Rattle.tx_machine.proofs.Common.{ap, ◌∙◌, sym, [], ◌∷◌, ◌&&◌, not, cond, Call, seizes, call_seen, with_more, ends_by}
use Rattle.tx_machine.proofs.Giving.{more_none, more_one}
use Rattle.tx_machine.proofs.Views.{any_map}
use Rattle.tx_machine.proofs.plain.ended_calls.give.Goals as goal

pub returns-then-is_kept : goal.returns-then-is_kept
returns-then-is_kept g c =
    let x = c.args.circuit.now in let v = c.args.releasing.now in
    let kept = c.kept-is_kept.ensures ∙ any_map (λ (d : Call). not (ends_by c.args.ends.now d) && seizes d x) call_seen c.args.calls.now in
    sym (ap (λ t. with_more v (cond (not t) (x ∷ []) [])) (sym kept ∙ c.if-is_kept.true) ∙ more_none v)

pub returns : goal.returns
returns g c =
    let x = c.args.circuit.now in let v = c.args.releasing.now in
    let kept = c.kept-is_kept.ensures ∙ any_map (λ (d : Call). not (ends_by c.args.ends.now d) && seizes d x) call_seen c.args.calls.now in
    c.set.ensures ∙ sym (ap (λ t. with_more v (cond (not t) (x ∷ []) [])) (sym kept ∙ c.if-is_kept.false) ∙ more_one v x)
