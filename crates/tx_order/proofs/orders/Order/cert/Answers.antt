use Rattle.tx_order.proofs.Common.{◌≡◌, ℕ, ◌+◌, Bool, List, length, sym, ap, subst, ◌∙◌, arith, Plan, rank_at, no_ranks_for, AreOrigins, Certifies, change_net, plan_front, fronts_before, IsCertifiedBelow}
use Rattle.tx_order.proofs.StageCerts.{certified_first, certified_next, certified_all}
use Rattle.tx_order.proofs.orders.Order.cert.Goals as goal

pub loop-index-init : goal.loop-index-init
loop-index-init g c = certified_first c.args.self.now.transition _ _ c.in_ok-cert.cert (c.in_ok-cert.ensures ∙ ap no_ranks_for c.old_plan-old.ensures)

pub certify-requires-clause-origins : goal.certify-requires-clause-origins
certify-requires-clause-origins g c =
    let p = c.args.self.now.transition.old in
    subst (λ (l : List Bool). AreOrigins p l) (sym c.deref.ensures.value) (subst (λ (q : Plan). AreOrigins q c.in_ok-origins.origins.items) c.old_plan-old.ensures c.in_ok-origins.ensures)

pub certify-requires-clause-code : goal.certify-requires-clause-code
certify-requires-clause-code g c =
    let n = ap (λ (p : Plan). length p.codes) c.old_plan-old.ensures in
    let t = c.loop-index-test.true in
    let a = c.of.ensures in
    let e = c.codes-index-end.ensures.count in
    omega arith

pub certify-requires-clause-blank : goal.certify-requires-clause-blank
certify-requires-clause-blank g c = let a = c.of.ensures in λ x. c.loop-index.invariant.blank c.of.result x (omega arith)

pub certify-requires-clause-codes : goal.certify-requires-clause-codes
certify-requires-clause-codes g c = c.loop-index.invariant.codes

pub certify-requires-clause-exchanges : goal.certify-requires-clause-exchanges
certify-requires-clause-exchanges g c = c.loop-index.invariant.exchanges

pub loop-index-preserved : goal.loop-index-preserved
loop-index-preserved g c =
    let o = c.args.self.now in
    let w = o.transition in
    let cert = c.certify.new.cert in
    let e = c.of.ensures in
    let r = c.in_ok-certify.ensures in
    let here = subst (λ (k : ℕ). Certifies (change_net (plan_front w (fronts_before o c.args.stage k)) (plan_front w (fronts_before o (c.args.stage + 1) k)) k) (rank_at cert k) w.limit w.spare) e r.certified in
    certified_next w (fronts_before o c.args.stage) (fronts_before o (c.args.stage + 1)) c.loop-index.index c.loop-index.cert cert c.loop-index.invariant here
    (λ d x q. r.others d x (λ s. q (s ∙ e))) r.codes r.exchanges

pub returns-clause-common : goal.returns-clause-common
returns-clause-common g c =
    let o = c.args.self.now in
    let w = o.transition in
    let n = ap (λ (p : Plan). length p.codes) c.old_plan-old.ensures in
    let all : c.loop-index.index ≡ length w.old.codes = let t = c.loop-index-test.false in let a = c.loop-index.auto.index-end in let e = c.codes-index-end.ensures.count in omega arith in
    certified_all w (fronts_before o c.args.stage) (fronts_before o (c.args.stage + 1)) c.rules.ensures.kept.transition c.loop-index.cert
    (subst (λ (n : ℕ). IsCertifiedBelow w (fronts_before o c.args.stage) (fronts_before o (c.args.stage + 1)) n c.loop-index.cert) all c.loop-index.invariant)

pub returns-clause-fits : goal.returns-clause-fits
returns-clause-fits g c = record { codes = c.loop-index.invariant.codes; exchanges = c.loop-index.invariant.exchanges; rules = c.rules-2.ensures }
