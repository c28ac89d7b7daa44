use Rattle.tx_mend.proofs.Common.{◌≡◌, ℕ, ◌+◌, ◌∙◌, length, sym, ap, arith, append-nil, flat_map, present_pairs, full_route, routes_below}
use Rattle.tx_mend.proofs.rerouting.full_routes.Goals as goal

pub loop-index-init : goal.loop-index-init
loop-index-init g c =
    let b = c.args.basis.now in
    let p = b.plan.now in
    c.in_ok-add_present.ensures ∙ ap (flat_map (full_route p b.limits.limit b.limits.spare)) (sym (append-nil (present_pairs p)))

pub add_absent-requires-clause-code : goal.add_absent-requires-clause-code
add_absent-requires-clause-code g c = let t = c.loop-index-test.true in let e = c.codes-index-end.ensures.count in let o = c.of.ensures in omega arith

pub add_absent-requires-clause-so_far : goal.add_absent-requires-clause-so_far
add_absent-requires-clause-so_far g c =
    let b = c.args.basis.now in
    c.loop-index.invariant ∙ ap (routes_below b.plan.now b.limits.limit b.limits.spare) (sym c.of.ensures)

pub loop-index-preserved : goal.loop-index-preserved
loop-index-preserved g c =
    let b = c.args.basis.now in
    c.in_ok-add_absent.ensures ∙ ap (λ (n : ℕ). routes_below b.plan.now b.limits.limit b.limits.spare (n + 1)) c.of.ensures

pub returns : goal.returns
returns g c =
    let b = c.args.basis.now in
    let p = b.plan.now in
    let all : c.loop-index.index ≡ length p.codes = let t = c.loop-index-test.false in let a = c.loop-index.auto.index-end in let e = c.codes-index-end.ensures.count in omega arith in
    c.loop-index.invariant ∙ ap (routes_below p b.limits.limit b.limits.spare) all
