use Rattle.std.proofs.Common.{◌∙◌, ◌+◌, ◌*◌, ap}
use Rattle.std.proofs.lemmas.Result.{IfOk-weaker}
use Rattle.tx_fill.specs.Fills.{carried}
use Rattle.tx_fill.proofs.Carried.{call_keyed, call_refused, not_keyed}
use Rattle.tx_fill.proofs.carrying.call.Goals as goal

pub returns-in-Keyed-clause-plan : goal.returns-in-Keyed-clause-plan
returns-in-Keyed-clause-plan g c =
    IfOk-weaker c.carry.result _ _ (λ _ h. h ∙ c.in_ok-number.ensures.plan) c.carry.ensures.plan

pub returns-in-Keyed-clause-state : goal.returns-in-Keyed-clause-state
returns-in-Keyed-clause-state g c =
    let p = c.args.plan.now in
    let a = c.in_ok-number.ensures in
    let same = a.plan ∙ c.requires.plan in
    let most = ap (λ n. 240 * n + 1) c.groups.ensures.count in
    IfOk-weaker c.carry.result _ _ (λ _ h. call_keyed p c.args.network.now.plan
    (c.args.line, c.args.other.now) c.args.network.now.state c.apply.new.self.state _
    c.full_number-keyed.result c.requires.plan c.full_number-keyed.ensures a.step _ c.in-Keyed.number
    c.in-Keyed.is
    (h ∙ (λ j. carried (same j) c.in-Keyed.number (most j) c.apply.new.self.state)))
    c.carry.ensures.state

pub returns-in_default-clause-state : goal.returns-in_default-clause-state
returns-in_default-clause-state g c =
    let a = c.in_ok-number.ensures in
    call_refused c.args.plan.now c.args.network.now.plan (c.args.line, c.args.other.now)
    c.args.network.now.state c.apply.new.self.state _ c.full_number-keyed.result c.requires.plan
    c.full_number-keyed.ensures a.step
    (not_keyed c.args.plan.now c.apply.new.self.state _ c.in_default.not-Keyed)
