use Rattle.tx_trie.proofs.Common.{◌≡◌, take, map, code_of_row, AreFirst}
use Rattle.tx_trie.proofs.trie.CodeTrie.build.Given as goal

abbrev pub invariant-loop-index : goal.invariant-loop-index
invariant-loop-index g l = record {
  codes : map code_of_row l.codes.items ≡ take l.index l.plan.codes;
  nodes : AreFirst l.plan.codes l.index l.nodes.items;
}
