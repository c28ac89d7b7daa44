use Rattle.tx_trie.proofs.Common.{◌≡◌, drop, node_after, node_of}
use Rattle.tx_trie.proofs.trie.node_of.Given as goal

abbrev pub invariant-loop-figure : goal.invariant-loop-figure
invariant-loop-figure l = node_after l.node (drop l.figure-index l.figures) ≡ node_of l.figures
