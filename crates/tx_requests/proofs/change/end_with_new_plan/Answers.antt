use Rattle.tx_requests.proofs.Common.{sym, ◌∙◌, exits_with, memory_stop}
use Rattle.tx_requests.proofs.Changing.{new_shown, new_writable, new_rules, ends_unshown, ends_lacking, ends_unwalked, ends_shown}
use Rattle.tx_requests.proofs.change.end_with_new_plan.Goals as goal

pub of-requires-in-Some : goal.of-requires-in-Some
of-requires-in-Some g c =
    new_writable c.args.request.now.limits.limit c.args.request.now.limits.spare c.args.findings.now
    c.in_ok-shown.field-0 c.in-Some.shown c.in-Some.is _ c.in_ok-shown.ensures

pub end_with-requires : goal.end_with-requires
end_with-requires g c =
    rw c.of-in-Some.ensures.plan
    (new_rules c.args.request.now.limits.limit c.args.request.now.limits.spare c.args.findings.now
    c.in_ok-shown.field-0 c.in-Some.shown c.in-Some.is _ c.in_ok-shown.ensures c.requires.joined.new)

pub returns-then-not-is_shown : goal.returns-then-not-is_shown
returns-then-not-is_shown g c =
    ends_unshown _ _ _ _ _ _ (sym c.is_shown.ensures ∙ c.if-not-is_shown.true)
    (c.of.ensures.status, c.of.ensures.made)

pub returns-in-Some : goal.returns-in-Some
returns-in-Some g c =
    ends_shown _ _ _ _ _ c.of-in-Some.result c.end_with.result
    (sym c.is_shown.ensures ∙ c.if-not-is_shown.false)
    (rw (c.of-in-Some.ensures.plan, c.of-in-Some.ensures.events)
    (new_shown c.args.request.now.limits.limit c.args.request.now.limits.spare c.args.findings.now
    c.in_ok-shown.field-0 c.in-Some.shown c.in-Some.is _ c.in_ok-shown.ensures))
    c.end_with.ensures.status c.end_with.ensures.made c.end_with.ensures.refused

pub returns : goal.returns
returns g c =
    ends_unwalked _ _ _ _ _ c.of-in-None.result (sym c.is_shown.ensures ∙ c.if-not-is_shown.false)
    c.of-in-None.ensures.status c.of-in-None.ensures.made (rw c.in-None.is at c.in_ok-shown.ensures)

pub returns-in_err-shown : goal.returns-in_err-shown
returns-in_err-shown g c =
    rw (exits_with c.from_residual.result memory_stop c.from_residual.ensures.1)
    (ends_lacking _ _ _ _ _ (sym c.is_shown.ensures ∙ c.if-not-is_shown.false))
