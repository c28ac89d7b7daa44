use Rattle.tx_mend.proofs.Common.{ℕ, ◌&&◌, ◌∙◌, sym, ap, append-nil, is_none, is_origin_for, least_rank, cause_of, Unserved}
use Rattle.tx_mend.proofs.Tables.{length_ranks}
use Rattle.tx_mend.proofs.Unranked.{some_pushed, some_passed}
use Rattle.tx_mend.proofs.causes.add_unserved.Goals as goal
use Rattle.tx_mend.proofs.causes.add_unserved.Goals.{then-is_unranked+in_ok-push, else-is_unranked}

pub is_unranked-requires-clause-long : goal.is_unranked-requires-clause-long
is_unranked-requires-clause-long g c =
    let r = c.args.reach.now in
    length_ranks r.plan.now r.least.now (least_rank r.plan.now r.code r.limits.limit r.limits.spare) r.within

pub loop-index-init : goal.loop-index-init
loop-index-init g c = sym (append-nil c.args.unserved.now.items)

pub loop-index-preserved : goal.loop-index-preserved
loop-index-preserved g c =
    let r = c.args.reach.now in
    let p = r.plan.now in
    let code = r.code in
    let n = c.loop-index.index in
    let least = least_rank p code r.limits.limit r.limits.spare in
    let told : ℕ → Unserved = λ x. record { code = code; exchange = x; cause = cause_of p code r.limits.limit r.limits.spare x } in
    let u = λ (x : ℕ). is_origin_for p x code && is_none (least x) in
    let at = c.of-exchange.ensures in
    let says = sym (ap u at) ∙ sym (c.is_unranked.ensures least r.within) in
    elim c.if-is_unranked.branch [
      | then-is_unranked+in_ok-push w ↦ some_pushed told u n c.args.unserved.now.items c.loop-index.unserved.items c.if-is_unranked.unserved.items (record { code = code; exchange = c.of-exchange.result; cause = w.cause_of-cause.result }) c.loop-index.invariant (let a = w.unserved-is in let b = w.in_ok-push.ensures.items in cc)
          (λ i. record { code = code; exchange = at i; cause = (w.cause_of-cause.ensures ∙ ap (cause_of p code r.limits.limit r.limits.spare) at) i }) (says ∙ w.if-is_unranked.true)
      | else-is_unranked w ↦ some_passed told u n c.args.unserved.now.items c.loop-index.unserved.items c.if-is_unranked.unserved.items c.loop-index.invariant (let a = w.unserved-is in cc) (says ∙ w.if-is_unranked.false)
    ]
