use Rattle.tx_risk.proofs.Common.{◌<◌, ◌≡◌, ◌≤◌, ◌∙◌, ◌++◌, ◌∷◌, [], false, map, length, ap, sym, subst, arith, list_any, filter_map, bytes_eq, take_all, group_name, group_named, NamedRisk, risk_in, risk_name, AreWithin}
use Rattle.tx_risk.proofs.RisksIn.{fresh, risks_next, all_within}
use Rattle.tx_risk.proofs.risks.Risks.over.Goals as goal

pub add-requires : goal.add-requires
add-requires g c =
    let self = c.args.self.now in
    let i = c.loop-index.index in
    let low : i < length self = let t = c.loop-index-test.true in
    let a = c.loop-index.auto.index-end in let e = c.len-index-end.ensures.count in omega arith in
    let name : c.new-name.result ≡ risk_name self i = c.new-name.ensures ∙ c.name.ensures in
    subst (λ n. list_any (λ (r : NamedRisk). bytes_eq n r.name) c.loop-index.risks ≡ false) (sym name)
    (fresh c.args.plan.now c.args.other.now self c.loop-index.risks i c.requires low c.loop-index.invariant)

pub loop-index-preserved : goal.loop-index-preserved
loop-index-preserved g c =
    let self = c.args.self.now in
    let i = c.loop-index.index in
    let low : i < length self = let t = c.loop-index-test.true in
    let a = c.loop-index.auto.index-end in let e = c.len-index-end.ensures.count in omega arith in
    let groups = c.in_ok-groups.groups.items in
    risks_next c.args.plan.now c.args.other.now self c.loop-index.risks _ i groups _ low c.loop-index.invariant
    (c.in_ok-groups.ensures
    ∙ ap (filter_map (λ k. group_named c.args.other.now (group_name c.args.plan.now k))) c.groups.ensures)
    c.has_unknown-unknown.ensures
    (c.in_ok-add.ensures.ok
    ∙ ap (λ n. c.loop-index.risks ++ record { name = n; groups = groups; unknown = c.has_unknown-unknown.result } ∷ [])
    (c.new-name.ensures ∙ c.name.ensures))

pub returns-clause-within : goal.returns-clause-within
returns-clause-within g c =
    let self = c.args.self.now in
    let past : length self ≤ c.loop-index.index = let t = c.loop-index-test.false in
    let a = c.loop-index.auto.index-end in let e = c.len-index-end.ensures.count in omega arith in
    subst (AreWithin c.args.other.now) (sym (c.loop-index.invariant
    ∙ ap (map (risk_in c.args.plan.now c.args.other.now)) (take_all c.loop-index.index self past)))
    (all_within c.args.plan.now c.args.other.now self)
