use Rattle.tx_join.proofs.Common.{◌∙◌, ℕ, List, [], ap, sym, arith, option_map_or, exchange_name, has_exchange}
use Rattle.tx_join.proofs.Counts.{counted_few, counted, uncounted}
use Rattle.tx_join.proofs.refusing.exchanges_of_both.Goals as goal
use Rattle.tx_join.proofs.refusing.exchanges_of_both.Goals.{then-not-has_exchange, else-not-has_exchange}

pub overflow_add-count : goal.overflow_add-count
overflow_add-count g c =
    let few = counted_few (λ (x : List ℕ). x) (has_exchange c.args.old.now) c.args.new.now.exchanges c.loop-index.index _ _ c.loop-index.invariant in
    let a = c.exchanges-count.ensures.few in
    let b = c.exchanges-count.ensures.count in
    let d = c.exchanges-index-end.ensures.few in
    let e = c.exchanges-index-end.ensures.count in
    omega arith

pub loop-index-preserved : goal.loop-index-preserved
loop-index-preserved g c =
    let t = c.loop-index-test.true in
    let n = c.exchanges-index-end.ensures.count in
    let named = c.exchange_name-name.ensures.value ∙ ap (exchange_name c.args.new.now) c.of.ensures in
    elim c.if-not-has_exchange.branch [
      | then-not-has_exchange w ↦ counted (λ (x : List ℕ). x) (has_exchange c.args.old.now) c.args.new.now.exchanges c.loop-index.index _ _ c.loop-index.invariant (omega arith) c.exchange_name-name.result.now (λ x e. named ∙ ap (λ o. option_map_or (λ (w : List ℕ). w) o []) e) (sym c.has_exchange.ensures ∙ w.if-not-has_exchange.true) _ w.count-is
      | else-not-has_exchange w ↦ uncounted (λ (x : List ℕ). x) (has_exchange c.args.old.now) c.args.new.now.exchanges c.loop-index.index _ _ c.loop-index.invariant (omega arith) c.exchange_name-name.result.now (λ x e. named ∙ ap (λ o. option_map_or (λ (w : List ℕ). w) o []) e) (sym c.has_exchange.ensures ∙ w.if-not-has_exchange.false) _ w.count-is
    ]
