use Rattle.tx_trie.proofs.Common.{◌≡◌, ◌∙◌, List, map, take, ap, sym, subst, arith, Code, code_of_row, look}
use Rattle.tx_plan.proofs.FirstPair.{IsLookUp, NoneBelow, none_below, found_both, none_there, paired, no_pair}
use Rattle.tx_trie.proofs.Nodes.{trie_look_up}
use Rattle.tx_trie.proofs.trie.CodeTrie.ambiguous.Goals as goal

pub loop-number-init : goal.loop-number-init
loop-number-init g c = none_below c.args.self.now

pub loop-number-preserved : goal.loop-number-preserved
loop-number-preserved g c =
    let nodes = c.self.inside.nodes.items in
    let longer = c.three_figures-longer.result in
    let is = subst (λ (l : List Code). IsLookUp l (look nodes)) c.self.view_is (trie_look_up (map code_of_row c.self.inside.codes.items) nodes c.self.invariant) in
    none_there c.args.self.now (look nodes) is c.loop-number.number c.zip-pair.result c.loop-number.invariant
    (found_both (look nodes) c.loop-number.number longer c.look.result c.look-in-loop-number.result c.zip-pair.result c.three_figures-longer.ensures
    (c.look.ensures ∙ ap (λ n. look n (take 2 longer)) c.deref.ensures.value) (c.look-in-loop-number.ensures ∙ ap (λ n. look n longer) c.deref-in-loop-number.ensures.value) c.zip-pair.ensures)
    (sym c.is_some.ensures ∙ c.if-is_some.false)

pub returns-then-is_some : goal.returns-then-is_some
returns-then-is_some g c =
    let nodes = c.self.inside.nodes.items in
    let longer = c.three_figures-longer.result in
    let is = subst (λ (l : List Code). IsLookUp l (look nodes)) c.self.view_is (trie_look_up (map code_of_row c.self.inside.codes.items) nodes c.self.invariant) in
    paired c.args.self.now (look nodes) is c.loop-number.number c.zip-pair.result (omega arith) c.loop-number.invariant
    (found_both (look nodes) c.loop-number.number longer c.look.result c.look-in-loop-number.result c.zip-pair.result c.three_figures-longer.ensures
    (c.look.ensures ∙ ap (λ n. look n (take 2 longer)) c.deref.ensures.value) (c.look-in-loop-number.ensures ∙ ap (λ n. look n longer) c.deref-in-loop-number.ensures.value) c.zip-pair.ensures)
    (sym c.is_some.ensures ∙ c.if-is_some.true)

pub returns : goal.returns
returns g c =
    let nodes = c.self.inside.nodes.items in
    let is = subst (λ (l : List Code). IsLookUp l (look nodes)) c.self.view_is (trie_look_up (map code_of_row c.self.inside.codes.items) nodes c.self.invariant) in
    let end : c.loop-number.number ≡ 1000 = omega arith in
    sym (no_pair c.args.self.now (look nodes) is (subst (NoneBelow c.args.self.now) end c.loop-number.invariant))
