use Rattle.tx_join.proofs.Common.{◌∙◌, ℕ, max, ap, sym, arith, Plan, exchange_name, group_name, ends_of, direction_of, count_of, has_group}
use Rattle.tx_join.proofs.NextDeclared.{no_group, all_groups, is_taken, taken_next}
use Rattle.tx_join.proofs.StepsDeclared.{group_fits, group_added, group_passed}
use Rattle.tx_join.proofs.network.add_groups.Goals as goal
use Rattle.tx_join.proofs.network.add_groups.Goals.{then-not-has_group+in_ok-taken, else-not-has_group}

pub loop-index-init : goal.loop-index-init
loop-index-init g c = no_group c.args.builder.now c.args.from.now c.args.other.now

pub taken-requires : goal.taken-requires
taken-requires g c =
    let from = c.args.from.now in
    let other = c.args.other.now in
    let t = c.loop-index-test.true in
    let n = c.groups-index-end.ensures.count in
    let named = c.group_name-name.ensures.value ∙ ap (group_name from) c.of-group.ensures in
    let known = sym (c.has_group.ensures ∙ ap (λ (p : Plan). has_group p c.group_name-name.result.now) c.plan.ensures) in
    let first = c.exchange_name-a.ensures.value ∙ ap (λ (q : ℕ × ℕ). exchange_name from q.0) (c.ends-a.ensures ∙ ap (ends_of from) c.of-group.ensures) in
    let second = c.exchange_name-b.ensures.value ∙ ap (λ (q : ℕ × ℕ). exchange_name from q.1) (c.ends-a.ensures ∙ ap (ends_of from) c.of-group.ensures) in
    let way = c.direction-direction.ensures ∙ ap (direction_of from) c.of-group.ensures in
    let own = c.group_count.ensures.value ∙ ap (count_of from) c.of-group.ensures in
    let many = c.max-count.ensures ∙ (λ j. max (own j) (c.circuits_named.ensures j)) in
    is_taken _ _ _ _ c.group.result (group_fits c.args.builder.now from other c.loop-index.builder _ _ _ _ _ c.loop-index.index c.groups-index-end.ensures.rules (omega arith) c.loop-index.invariant named first second way many c.requires.rules c.requires.ends (known ∙ c.if-not-has_group.true)) c.group.ensures

pub loop-index-preserved : goal.loop-index-preserved
loop-index-preserved g c =
    let from = c.args.from.now in
    let other = c.args.other.now in
    let t = c.loop-index-test.true in
    let n = c.groups-index-end.ensures.count in
    let named = c.group_name-name.ensures.value ∙ ap (group_name from) c.of-group.ensures in
    let known = sym (c.has_group.ensures ∙ ap (λ (p : Plan). has_group p c.group_name-name.result.now) c.plan.ensures) in
    elim c.if-not-has_group.branch [
      | then-not-has_group+in_ok-taken w ↦ (let first = w.exchange_name-a.ensures.value ∙ ap (λ (q : ℕ × ℕ). exchange_name from q.0) (w.ends-a.ensures ∙ ap (ends_of from) c.of-group.ensures) in
          let second = w.exchange_name-b.ensures.value ∙ ap (λ (q : ℕ × ℕ). exchange_name from q.1) (w.ends-a.ensures ∙ ap (ends_of from) c.of-group.ensures) in
          let way = w.direction-direction.ensures ∙ ap (direction_of from) c.of-group.ensures in
          let own = w.group_count.ensures.value ∙ ap (count_of from) c.of-group.ensures in
          let many = w.max-count.ensures ∙ (λ j. max (own j) (w.circuits_named.ensures j)) in
          group_added c.args.builder.now from other c.loop-index.builder _ _ _ _ _ c.loop-index.index c.groups-index-end.ensures.rules (omega arith) c.loop-index.invariant named first second way many c.requires.rules c.requires.ends (known ∙ w.if-not-has_group.true) _ (w.builder-is ∙ taken_next _ _ _ _ _ w.in_ok-taken.ensures.ok w.group.ensures))
      | else-not-has_group w ↦ group_passed c.args.builder.now from other c.loop-index.builder _ (exchange_name from (ends_of from c.loop-index.index).0) (exchange_name from (ends_of from c.loop-index.index).1) (direction_of from c.loop-index.index) (count_of from c.loop-index.index) c.loop-index.index c.groups-index-end.ensures.rules (omega arith) c.loop-index.invariant named (known ∙ w.if-not-has_group.false) _ w.builder-is
    ]

pub returns-clause-added : goal.returns-clause-added
returns-clause-added g c =
    let t = c.loop-index-test.false in
    let a = c.loop-index.auto.index-end in
    let n = c.groups-index-end.ensures.count in
    c.loop-index.invariant ∙ all_groups c.args.builder.now c.args.from.now c.args.other.now c.loop-index.index (omega arith)
