use Rattle.tx_join.proofs.Common.{◌∙◌, [], ap, sym, arith, option_map_or, figures_of, Code, has_code}
use Rattle.tx_join.proofs.Counts.{counted_few, counted, uncounted}
use Rattle.tx_join.proofs.refusing.codes_of_both.Goals as goal
use Rattle.tx_join.proofs.refusing.codes_of_both.Goals.{then-not-has_code, else-not-has_code}

pub overflow_add-count : goal.overflow_add-count
overflow_add-count g c =
    let few = counted_few (λ (x : Code). x.figures) (has_code c.args.old.now) c.args.new.now.codes c.loop-index.index _ _ c.loop-index.invariant in
    let a = c.codes-count.ensures.few in
    let b = c.codes-count.ensures.count in
    let d = c.codes-index-end.ensures.few in
    let e = c.codes-index-end.ensures.count in
    omega arith

pub loop-index-preserved : goal.loop-index-preserved
loop-index-preserved g c =
    let t = c.loop-index-test.true in
    let n = c.codes-index-end.ensures.count in
    let named = c.code_figures-figures.ensures.value ∙ ap (figures_of c.args.new.now) c.of.ensures in
    elim c.if-not-has_code.branch [
      | then-not-has_code w ↦ counted (λ (x : Code). x.figures) (has_code c.args.old.now) c.args.new.now.codes c.loop-index.index _ _ c.loop-index.invariant (omega arith) c.code_figures-figures.result.now (λ x e. named ∙ ap (λ o. option_map_or (λ (k : Code). k.figures) o []) e) (sym c.has_code.ensures ∙ w.if-not-has_code.true) _ w.count-is
      | else-not-has_code w ↦ uncounted (λ (x : Code). x.figures) (has_code c.args.old.now) c.args.new.now.codes c.loop-index.index _ _ c.loop-index.invariant (omega arith) c.code_figures-figures.result.now (λ x e. named ∙ ap (λ o. option_map_or (λ (k : Code). k.figures) o []) e) (sym c.has_code.ensures ∙ w.if-not-has_code.false) _ w.count-is
    ]
