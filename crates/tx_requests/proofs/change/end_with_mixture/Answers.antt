use Rattle.tx_requests.proofs.Common.{sym, ◌∙◌, exits_with, memory_stop}
use Rattle.tx_requests.proofs.Changing.{mixture_shown, mixture_writable, mixture_rules, ends_unshown, ends_lacking, ends_unwalked, ends_shown}
use Rattle.tx_requests.proofs.change.end_with_mixture.Goals as goal

pub first_mixture-requires-clause-network : goal.first_mixture-requires-clause-network
first_mixture-requires-clause-network g c = c.requires.joined.joined.network.same

pub of-requires-in-Some : goal.of-requires-in-Some
of-requires-in-Some g c =
    mixture_writable c.args.request.now.limits.limit c.args.request.now.limits.spare c.args.findings.now
    c.in_ok-mixture.field-0 c.in-Some.mixture c.in-Some.is _ _ c.in_ok-mixture.ensures

pub end_with-requires : goal.end_with-requires
end_with-requires g c =
    rw c.of-in-Some.ensures.plan
    (mixture_rules c.args.request.now.limits.limit c.args.request.now.limits.spare c.args.findings.now
    c.in_ok-mixture.field-0 c.in-Some.mixture c.in-Some.is _ _ c.in_ok-mixture.ensures)

pub returns-then-not-is_shown : goal.returns-then-not-is_shown
returns-then-not-is_shown g c =
    ends_unshown _ _ _ _ _ _ (sym c.is_shown.ensures ∙ c.if-not-is_shown.true)
    (c.of.ensures.status, c.of.ensures.made)

pub returns-in-Some : goal.returns-in-Some
returns-in-Some g c =
    ends_shown _ _ _ _ _ c.of-in-Some.result c.end_with.result
    (sym c.is_shown.ensures ∙ c.if-not-is_shown.false)
    (rw (c.of-in-Some.ensures.plan, c.of-in-Some.ensures.events)
    (mixture_shown c.args.request.now.limits.limit c.args.request.now.limits.spare c.args.findings.now
    c.in_ok-mixture.field-0 c.in-Some.mixture c.in-Some.is _ _ c.in_ok-mixture.ensures))
    c.end_with.ensures.status c.end_with.ensures.made c.end_with.ensures.refused

pub returns : goal.returns
returns g c =
    ends_unwalked _ _ _ _ _ c.of-in-None.result (sym c.is_shown.ensures ∙ c.if-not-is_shown.false)
    c.of-in-None.ensures.status c.of-in-None.ensures.made (rw c.in-None.is at c.in_ok-mixture.ensures)

pub returns-in_err-mixture : goal.returns-in_err-mixture
returns-in_err-mixture g c =
    rw (exits_with c.from_residual.result memory_stop c.from_residual.ensures.1)
    (ends_lacking _ _ _ _ _ (sym c.is_shown.ensures ∙ c.if-not-is_shown.false))
