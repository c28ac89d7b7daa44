use Rattle.tx_order.proofs.Common.{ℕ, ◌+◌, length, sym, ap, subst, ◌∙◌, arith, IfOk, rank_at, AreOrigins, IsJudged, change_net, Transition, plan_front, fronts_before}
use Rattle.tx_order.proofs.TwoFronts.{result_certified}
use Rattle.tx_order.proofs.Ordered.{code_safe}
use Rattle.tx_order.proofs.stages.certify.Goals as goal

pub rank_between-requires-clause-origins : goal.rank_between-requires-clause-origins
rank_between-requires-clause-origins g c = subst (λ (w : Transition). AreOrigins w.old c.args.origins.now) (sym c.transition.ensures) c.requires.origins

pub rank_between-requires-clause-code : goal.rank_between-requires-clause-code
rank_between-requires-clause-code g c = let n = ap (λ (w : Transition). length w.old.codes) c.transition.ensures in let h = c.requires.code in omega arith

pub rank_between-requires-clause-codes : goal.rank_between-requires-clause-codes
rank_between-requires-clause-codes g c = c.requires.codes ∙ sym (ap (λ (w : Transition). length w.old.codes) c.transition.ensures)

pub rank_between-requires-clause-exchanges : goal.rank_between-requires-clause-exchanges
rank_between-requires-clause-exchanges g c = c.requires.exchanges ∙ sym (ap (λ (w : Transition). length w.old.exchanges) c.transition.ensures)

pub returns-clause-certified : goal.returns-clause-certified
returns-clause-certified g c =
    let o = c.args.order.now in
    let code = c.args.code in
    let cert = c.rank_between.new.cert in
    let judged = λ (w : Transition) (from to : ℕ). IfOk c.rank_between.result (λ _. IsJudged (change_net (plan_front w from) (plan_front w to) code) code w.limit w.spare c.new-findings.result.items c.rank_between.new.findings.items (rank_at cert code)) in
    let here = subst (λ (to : ℕ). judged o.transition (fronts_before o c.args.stage code) to) c.front-to.ensures
    (subst (λ (from : ℕ). judged o.transition from c.front-to.result) c.front-from.ensures
    (subst (λ (w : Transition). judged w c.front-from.result c.front-to.result) c.transition.ensures c.rank_between.ensures.judged)) in
    result_certified o.transition c.rules.ensures.kept.transition code (fronts_before o c.args.stage code) (fronts_before o (c.args.stage + 1) code) c.requires.code
    (code_safe o c.rules.ensures.kept c.args.stage code c.requires.code)
    c.new-findings.result.items c.rank_between.new.findings.items (rank_at cert code) c.rank_between.result here
