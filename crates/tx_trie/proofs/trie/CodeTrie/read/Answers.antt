use Rattle.tx_trie.proofs.Common.{ap, sym, ◌∙◌, take, map, List, take_min, Code, code_of, code_of_row, plan_of, look}
use Rattle.tx_trie.proofs.Nodes.{trie_look_up}
use Rattle.tx_trie.proofs.Reading.{read_three, read_two}
use Rattle.tx_trie.proofs.trie.CodeTrie.read.Goals as goal

pub returns-then-is_some : goal.returns-then-is_some
returns-then-is_some g c =
    let text = c.args.figures.now in
    let nodes = c.self.inside.nodes.items in
    let three = c.look-longer.ensures ∙ (λ k. look (c.deref.ensures.value k) (take (c.min.ensures k) text)) ∙ ap (look nodes) (take_min 3 text) in
    read_three (map code_of_row c.self.inside.codes.items) (look nodes) (trie_look_up _ nodes c.self.invariant) text c.look-longer.result three (sym c.is_some.ensures ∙ c.if-is_some.true)
    ∙ ap (λ (l : List Code). code_of (plan_of l) text) c.self.view_is

pub returns : goal.returns
returns g c =
    let text = c.args.figures.now in
    let nodes = c.self.inside.nodes.items in
    let three = c.look-longer.ensures ∙ (λ k. look (c.deref.ensures.value k) (take (c.min.ensures k) text)) ∙ ap (look nodes) (take_min 3 text) in
    c.look.ensures ∙ (λ k. look (c.deref-2.ensures.value k) (take (c.min-2.ensures k) text)) ∙ ap (look nodes) (take_min 2 text)
    ∙ read_two (map code_of_row c.self.inside.codes.items) (look nodes) (trie_look_up _ nodes c.self.invariant) text c.look-longer.result three (sym c.is_some.ensures ∙ c.if-is_some.false)
    ∙ ap (λ (l : List Code). code_of (plan_of l) text) c.self.view_is
