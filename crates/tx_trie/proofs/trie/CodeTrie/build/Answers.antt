use Rattle.std.proofs.Common.{◌≡◌, ℕ, ◌<◌, Option, None, replicate, length, ap, ◌∙◌, arith, rules}
use Rattle.tx_trie.proofs.Common.{length-replicate, figures_of, home_of, spelled}
use Rattle.tx_trie.proofs.Nodes.{node_within}
use Rattle.tx_trie.proofs.Filling.{is_none, rows_more, no_code, figures_form, filled, all_in}
use Rattle.tx_trie.proofs.trie.CodeTrie.build.Goals as goal

pub loop-index-init : goal.loop-index-init
loop-index-init g c =
    let bare : c.in_ok-nodes.nodes.items ≡ replicate 2000 None = c.in_ok-nodes.ensures.items_if_clones_equal (is_none _ (λ i some. some)) in
    record { codes = search rules; nodes = no_code c.args.plan.now.codes c.in_ok-nodes.nodes.items bare (ap length bare ∙ length-replicate {A = Option ℕ} 2000 None) }

pub node_of-requires : goal.node_of-requires
node_of-requires g c =
    let p = c.args.plan.now in
    let low : c.loop-index.index < length p.codes = (let e = c.codes-index-end.ensures.count in omega arith) in
    figures_form p c.codes-index-end.ensures.rules c.loop-index.index low _ (c.code_figures-figures.ensures.value ∙ ap (figures_of p) c.of-code.ensures)

pub index_mut-requires : goal.index_mut-requires
index_mut-requires g c =
    let p = c.args.plan.now in
    let low : c.loop-index.index < length p.codes = (let e = c.codes-index-end.ensures.count in omega arith) in
    let form = figures_form p c.codes-index-end.ensures.rules c.loop-index.index low c.code_figures-figures.result.now (c.code_figures-figures.ensures.value ∙ ap (figures_of p) c.of-code.ensures) in
    let within = node_within c.code_figures-figures.result.now (spelled c.code_figures-figures.result.now form) in
    let at = c.node_of.ensures in
    let long = c.loop-index.invariant.nodes.long in
    omega arith

pub loop-index-preserved : goal.loop-index-preserved
loop-index-preserved g c =
    let p = c.args.plan.now in
    let n = c.loop-index.index in
    let low : n < length p.codes = (let e = c.codes-index-end.ensures.count in omega arith) in
    let figures = c.code_figures-figures.ensures.value ∙ ap (figures_of p) c.of-code.ensures in
    record {
      codes = rows_more p n low c.loop-index.codes.items _ _ _ c.loop-index.invariant.codes c.in_ok-push.ensures.items (c.new.ensures ∙ figures) (c.home.ensures ∙ ap (home_of p) c.of-code.ensures);
      nodes = filled p c.codes-index-end.ensures.rules n low c.loop-index.nodes.items _ c.node_of.result c.of-code.result c.code_figures-figures.result.now c.loop-index.invariant.nodes (search rules) c.node_of.ensures figures c.of-code.ensures;
    }

pub invariant_of-result : goal.invariant_of-result
invariant_of-result g c =
    let p = c.args.plan.now in
    let end : c.loop-index.index ≡ length p.codes = (let e = c.codes-index-end.ensures.count in omega arith) in
    (all_in p c.codes-index-end.ensures.rules c.loop-index.index _ _ end c.loop-index.invariant.codes c.loop-index.invariant.nodes).1

pub returns : goal.returns
returns g c =
    let p = c.args.plan.now in
    let end : c.loop-index.index ≡ length p.codes = (let e = c.codes-index-end.ensures.count in omega arith) in
    (all_in p c.codes-index-end.ensures.rules c.loop-index.index _ _ end c.loop-index.invariant.codes c.loop-index.invariant.nodes).0
