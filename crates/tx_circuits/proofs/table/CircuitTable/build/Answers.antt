use Rattle.tx_circuits.proofs.Common.{◌≡◌, ◌∙◌, ℕ, suc, ◌+◌, ◌<◌, ◌≤◌, [], ◌∷◌, ◌++◌, false, length, map, take, sym, ap, arith, replicate, slice_get, take_all, idle, table_of}
use Rattle.tx_plan.proofs.ByIndex.{entry_at}
use Rattle.tx_circuits.proofs.Built.{fresh, fresh_push, fresh_is, built_is}
use Rattle.tx_circuits.proofs.table.CircuitTable.build.Goals as goal

pub loop-index-preserved : goal.loop-index-preserved
loop-index-preserved g c =
    let plan = c.args.plan.now in
    let k = c.loop-index.index in
    let test : k < c.groups-index-end.result = c.loop-index-test.true in
    let many : c.groups-index-end.result ≡ length plan.groups = c.groups-index-end.ensures.count in
    let r = entry_at plan.groups k (omega arith) in
    let same : c.of-group.result ≡ k = c.of-group.ensures in
    let told : record { head = record { a = c.ends-ends.result.0; b = c.ends-ends.result.1; direction = c.direction.result; failed = false; blocked = false }; states = replicate c.group_count.result idle } ≡ fresh r.0 =
    (λ i. record { head = record { a = (c.ends-ends.ensures i).0; b = (c.ends-ends.ensures i).1; direction = c.direction.ensures i; failed = false; blocked = false }; states = replicate (c.group_count.ensures.value i) idle })
    ∙ fresh_is plan c.of-group.result r.0 (ap (λ (n : ℕ). slice_get plan.groups n) same ∙ r.1) in
    c.in_ok-add.ensures.ok ∙ (λ i. c.loop-index.invariant i ++ told i ∷ []) ∙ sym (fresh_push plan.groups k r.0 r.1) ∙ ap (λ (n : ℕ). map fresh (take n plan.groups)) (sym (one_more k))
  where
    one_more : (n : ℕ) → n + 1 ≡ suc n
    one_more n = omega arith

pub returns : goal.returns
returns g c =
    let plan = c.args.plan.now in
    let test : c.groups-index-end.result ≤ c.loop-index.index = c.loop-index-test.false in
    let many : c.groups-index-end.result ≡ length plan.groups = c.groups-index-end.ensures.count in
    ap table_of (c.loop-index.invariant ∙ ap (map fresh) (take_all c.loop-index.index plan.groups (omega arith))) ∙ built_is plan
