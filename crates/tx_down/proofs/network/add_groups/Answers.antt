use Rattle.tx_down.proofs.Common.{◌∙◌, ℕ, ap, sym, arith, exits_with}
use Rattle.tx_plan.specs.Plan.{exchange_name, group_name}
use Rattle.tx_plan.specs.Circuits.{ends_of, direction_of, count_of}
use Rattle.tx_down.proofs.Taking.{group_fits, group_added, group_left, out_of_memory}
use Rattle.tx_down.proofs.network.add_groups.Goals as goal
use Rattle.tx_down.proofs.network.add_groups.Goals.{then-not-is_one_of+in_ok-group, else-not-is_one_of}

pub returns-in_err-group-clause-memory : goal.returns-in_err-group-clause-memory
returns-in_err-group-clause-memory g c =
    let from = c.args.from.now in
    let t = c.loop-index-test.true in
    let n = c.groups-index-end.ensures.count in
    let named = c.group_name-name.ensures.value ∙ ap (group_name from) c.of-group.ensures in
    let first = c.exchange_name-a.ensures.value ∙ ap (λ (q : ℕ × ℕ). exchange_name from q.0) (c.ends-a.ensures ∙ ap (ends_of from) c.of-group.ensures) in
    let second = c.exchange_name-b.ensures.value ∙ ap (λ (q : ℕ × ℕ). exchange_name from q.1) (c.ends-a.ensures ∙ ap (ends_of from) c.of-group.ensures) in
    let way = c.direction-direction.ensures ∙ ap (direction_of from) c.of-group.ensures in
    let many = c.group_count-count.ensures.value ∙ ap (count_of from) c.of-group.ensures in
    rw (exits_with c.from_residual.result c.in_err-group.field-0.0 c.from_residual.ensures.1)
    (out_of_memory _ _ (group_fits from c.groups-index-end.ensures.rules c.args.down.now
    c.loop-index.builder _ c.loop-index.index (omega arith) c.loop-index.invariant named _ _ _ _ first second way many)
    c.in_err-group.ensures.1)

pub loop-index-preserved : goal.loop-index-preserved
loop-index-preserved g c =
    let from = c.args.from.now in
    let t = c.loop-index-test.true in
    let n = c.groups-index-end.ensures.count in
    let named = c.group_name-name.ensures.value ∙ ap (group_name from) c.of-group.ensures in
    elim c.if-not-is_one_of.branch [
      | then-not-is_one_of+in_ok-group w ↦ (let first = w.exchange_name-a.ensures.value ∙ ap (λ (q : ℕ × ℕ). exchange_name from q.0) (w.ends-a.ensures ∙ ap (ends_of from) c.of-group.ensures) in
          let second = w.exchange_name-b.ensures.value ∙ ap (λ (q : ℕ × ℕ). exchange_name from q.1) (w.ends-a.ensures ∙ ap (ends_of from) c.of-group.ensures) in
          let way = w.direction-direction.ensures ∙ ap (direction_of from) c.of-group.ensures in
          let many = w.group_count-count.ensures.value ∙ ap (count_of from) c.of-group.ensures in
          w.builder-is ∙ w.in_ok-group.ensures.1 ∙ group_added from c.groups-index-end.ensures.rules c.args.down.now
          c.loop-index.builder _ c.loop-index.index (omega arith) c.loop-index.invariant named _ _ _ _ first second way many
          (sym c.is_one_of.ensures ∙ w.if-not-is_one_of.true))
      | else-not-is_one_of w ↦ w.builder-is ∙ group_left from c.groups-index-end.ensures.rules c.args.down.now
          c.loop-index.builder _ c.loop-index.index (omega arith) c.loop-index.invariant named
          (sym c.is_one_of.ensures ∙ w.if-not-is_one_of.false)
    ]
